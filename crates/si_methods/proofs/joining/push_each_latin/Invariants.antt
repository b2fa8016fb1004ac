-- the characters so far stand at the end of the text
use Rattle.std.proofs.Common.{◌≡◌, ◌++◌, take}
use Rattle.si_methods.proofs.joining.push_each_latin.Given as goal

abbrev pub invariant-loop-c : goal.invariant-loop-c
invariant-loop-c l = l.text ≡ l.fn.text ++ take l.c-index l.characters
