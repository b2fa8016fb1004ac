use Rattle.si_share.proofs.Parts.{each_has_value}
use Rattle.si_share.proofs.inward.copy_in.Goals as goal

pub value_in-requires : goal.value_in-requires
value_in-requires c = each_has_value c.args.parcel.now
