-- how many levels of tuples and objects may be written
use Rattle.std.proofs.Common.{◌+◌, ◌*◌}
use Rattle.si_ops.proofs.shown.+str.Given as goal

abbrev pub decreases-put_str : goal.decreases-put_str
decreases-put_str l = 3 * l.depth

abbrev pub decreases-put_plain_str : goal.decreases-put_plain_str
decreases-put_plain_str l = 3 * l.depth + 1

abbrev pub decreases-put_object_str : goal.decreases-put_object_str
decreases-put_object_str l = 3 * l.depth + 2
