-- Which fault a text has.
use Rattle.si_token.specs.declared.scan.TokenFault.{TokenFault}
use Rattle.si_token.specs.declared.scan.TokenFault.TheVariants.{BadText, TooLong, NoMemory}

-- the rules of the text's words and lines are to blame, and neither its length nor the memory
abbrev pub IsBadText : TokenFault → Type 0
IsBadText (BadText line) = Unit {0}
IsBadText TooLong = ⊥
IsBadText NoMemory = ⊥

-- its length is to blame
abbrev pub IsTooLong : TokenFault → Type 0
IsTooLong (BadText line) = ⊥
IsTooLong TooLong = Unit {0}
IsTooLong NoMemory = ⊥
