use mathlib.Core.Path.{◌≡◌, refl, ap₂, ◌∙◌}
use mathlib.Core.Bool.{◌&&◌, ◌||◌}
use lib.Dec.{eqb}
use Rattle.places.specs.Inside.PlaceSets.{in_set}
use lib.ListN.{length}
use Prim.Native.Nat.{ℕ, ◌+◌}
use Rattle.base.specs.Bytes.{part}
use Rattle.notes.specs.Inside.Layout.{keys, key_low_at}
use Rattle.notes.proofs.Lending.{filed}
use Rattle.notes.proofs.Notes.file_place.Goals as goal

pub returns : goal.returns
returns c = let a = c.args in
    let w = a.self.now.words in
    let k : length c.mark.new.sets ≡ length (part (keys + keys) w key_low_at) = c.mark.auto.sets in (
      filed w c.mark.new.sets a.self.now.word_room k c.with-forked.result.low c.with-forked.result.high a.signer a.link a.ballot a.form a.p a.forks c.mark.ensures
          (λ q l. c.with-forked.ensures q l ∙ ap₂ (λ (u v : ℕ). (a.forks && eqb a.p q) || in_set u v q) c.forked.ensures.0 c.forked.ensures.1),
      refl,
    )
