-- The number and the letter of each kind of place.
use Rattle.std.specs.Prelude.{ℕ}
use Rattle.calls.specs.declared.kind.Kind.{Kind}
use Rattle.calls.specs.declared.kind.Kind.TheVariants.{Hole, Reserved, Written}

abbrev pub kind_number : Kind → ℕ
kind_number Hole = 0
kind_number Reserved = 1
kind_number Written = 2

-- h, r and w, by their ASCII codes
abbrev pub kind_letter : Kind → ℕ
kind_letter Hole = 104
kind_letter Reserved = 114
kind_letter Written = 119
