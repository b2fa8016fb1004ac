-- the characters so far are in the text
use Rattle.std.proofs.Common.{◌≡◌, take}
use Rattle.si_share.proofs.text.latin_text.Given as goal

abbrev pub invariant-loop-c : goal.invariant-loop-c
invariant-loop-c l = l.text ≡ take l.c-index l.characters
