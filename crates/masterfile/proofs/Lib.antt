pub mod FieldLemmas
pub mod Ipv6Lemmas
pub mod Fronts
pub mod HeadLemmas
pub mod FileLemmas
mod Inverse
mod WordLemmas
mod HeadLaw
mod EntryLaw
pub mod TextLaw
mod PrintLemmas
mod PlainWords
mod NumbersBack
mod NamesBack
mod AddressesBack
mod StringsBack
mod RecordsBack
pub mod ReadBack
pub mod KeptRecords
pub mod Dots
pub mod Ipv6Texts
