-- Each type is named by its word, and by its number.
use Rattle.std.proofs.Common.{◌≡◌, Some, refl}
use Rattle.rdata.specs.declared.rtype.RType.{RType}
use Rattle.rdata.specs.declared.rtype.RType.TheVariants.{A, Ns, Cname, Soa, Ptr, Mx, Txt, Aaaa, Srv}
use Rattle.rdata.specs.Types.{type_number, type_by, type_word, type_named}

pub word_names_type : (t : RType) → type_named (type_word t) ≡ Some t
unfolding type_named
word_names_type A = refl
word_names_type Ns = refl
word_names_type Cname = refl
word_names_type Soa = refl
word_names_type Ptr = refl
word_names_type Mx = refl
word_names_type Txt = refl
word_names_type Aaaa = refl
word_names_type Srv = refl

pub number_names_type : (t : RType) → type_by (type_number t) ≡ Some t
number_names_type A = refl
number_names_type Ns = refl
number_names_type Cname = refl
number_names_type Soa = refl
number_names_type Ptr = refl
number_names_type Mx = refl
number_names_type Txt = refl
number_names_type Aaaa = refl
number_names_type Srv = refl
