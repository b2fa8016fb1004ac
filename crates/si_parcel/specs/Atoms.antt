-- The atom for which a value of `Atom` stands.
use Rattle.si_semantics.specs.Parcels as tree
use Rattle.si_parcel.specs.declared.atom.Atom.{Atom}
use Rattle.si_parcel.specs.declared.atom.Atom.TheVariants as atom

abbrev pub atom_of : Atom → tree.Atom
atom_of atom.Nothing = tree.Nothing
atom_of (atom.Truth b) = tree.Truth b
atom_of (atom.Int n) = tree.Int n
atom_of (atom.Str s) = tree.Str s.now
atom_of (atom.Bytes bs) = tree.Bytes bs.now
atom_of (atom.Queue id maxsize) = tree.Queue id maxsize
