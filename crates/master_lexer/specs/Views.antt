-- What the definitions see of the code's enums.
use Rattle.master_lexer.specs.declared.lexemes.Word.{Word}
use Rattle.master_lexer.specs.declared.lexemes.Word.TheVariants.{Plain, Quoted, Broken}
use Rattle.master_lexer.specs.declared.lexemes.Lexeme.{Lexeme}
use Rattle.master_lexer.specs.declared.lexemes.Lexeme.TheVariants.{Gap, LineEnd, Open, Close, Item}
use Rattle.master_lexer.specs.declared.cursor.Lead.{Lead}
use Rattle.master_lexer.specs.declared.cursor.Lead.TheVariants.{Margin, Blank, Shifted}
use Rattle.master_lexer.specs.Entries.{Lead as LeadSpec, margin, blank, shifted}
use Rattle.master_lexer.specs.Lexemes.{Word as WordSpec, plain, quoted, broken, Lexeme as LexemeSpec, gap, line_end, opens, closes, item}

abbrev pub word_of : Word → WordSpec
word_of (Plain s) = plain s.now
word_of (Quoted s) = quoted s.now
word_of Broken = broken

abbrev pub lexeme_of : Lexeme → LexemeSpec
lexeme_of Gap = gap
lexeme_of LineEnd = line_end
lexeme_of Open = opens
lexeme_of Close = closes
lexeme_of (Item w) = item (word_of w)

abbrev pub lead_of : Lead → LeadSpec
lead_of Margin = margin
lead_of Blank = blank
lead_of Shifted = shifted
