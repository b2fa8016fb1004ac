-- The worked cases of attributes, methods and imports compute.
use Rattle.std.specs.Prelude.{refl}
use Rattle.std.specs.Fmt.{digits}
use Rattle.si_plain.specs.Kinds.{name_of}
use Rattle.si_plain.specs.Repr.{quote_of, escaped, repr_of}
use Rattle.si_semantics.specs.Worked.Attributes.{AttributeCases}

pub worked : AttributeCases
unfolding digits name_of quote_of escaped repr_of
worked = record {
  modules_shown = refl;
  modules_compared = refl;
  not_imported = refl;
  kinds_of_the_module = refl;
  another_kind = refl;
  method_alone = refl;
  beginnings = refl;
  ends_of_texts = refl;
  part_of_another_kind = refl;
  no_part = refl;
  part_by_name = refl;
  looked_for_first = refl;
  arguments_then_the_call = refl;
}
