-- Ids. Nothing is asked of an id but that two can be compared: which rule gives a message its id is left to the layers above.
use Rattle.std.specs.Prelude.{Bool, true, false, ◌&&◌, List, [], ◌∷◌, ℕ, eqb}
use Rattle.std.proofs.Math.Option.{Option, none, some}

-- an id is a list of numbers: on the wire, its 32 bytes
abbrev pub Id : Type 0
Id = List ℕ

unfoldable pub same_id : Id → Id → Bool
same_id [] [] = true
same_id [] (y ∷ ys) = false
same_id (x ∷ xs) [] = false
same_id (x ∷ xs) (y ∷ ys) = eqb x y && same_id xs ys

-- "the same previous id or both have none"
unfoldable pub same_previous : Option Id → Option Id → Bool
same_previous none none = true
same_previous none (some y) = false
same_previous (some x) none = false
same_previous (some x) (some y) = same_id x y
