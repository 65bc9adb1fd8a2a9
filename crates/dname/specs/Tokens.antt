-- The code's first dot or byte of a text, seen as a token.
use Rattle.dname.specs.Text.{Token, Dot, Byte, Bad}
use Rattle.dname.specs.declared.text.Spelt.{Spelt}
use Rattle.dname.specs.declared.text.Spelt.TheVariants as spelt

abbrev pub token_of : Spelt → Token
token_of spelt.Dot = Dot
token_of (spelt.Byte b) = Byte b
token_of spelt.Bad = Bad
