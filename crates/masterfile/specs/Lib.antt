-- To be read: what the words of the contracts mean.
pub mod MasterText
pub mod Ipv6Text
pub mod Files
pub mod Printed
pub mod ReadBack
pub mod Faults
-- Computed: functions that the code is compared with.
pub mod Entries
pub mod Fields
pub mod Numbers
pub mod Addresses
pub mod Strings
-- Kept: invariants of the code's values, and how contracts see them.
pub mod Given
