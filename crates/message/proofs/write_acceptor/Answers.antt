use mathlib.Core.Path.{◌≡◌, ap, sym, ◌∙◌}
use mathlib.Core.List.{[], ◌∷◌, ◌++◌}
use Prim.Native.Nat.{ℕ, ◌+◌, ◌*◌}
use lib.ListN.{length, length-append}
use Rattle.base.specs.Bytes.{put_at}
use Rattle.base.proofs.Bytes.{more_at}
use Rattle.message.specs.Layout.{marker, acceptor_len}
use Rattle.message.specs.Writer.{head_bytes, has_previous, fronted}
use Rattle.message.specs.Inside.Writing.{gathered}
use Rattle.message.proofs.Encoding.{head_length, marker_byte, previous_span, acceptor_length_lem}
use Rattle.message.proofs.Gathers.{gathered_length}
use native.Mathlib.Omega.{arith}
use Rattle.message.proofs.write_acceptor.Goals as goal

pub returns : goal.returns
returns c =
    let a = c.args in
    let b = a.buf.now in
    let old = a.previous.now in
    let n = a.count in
    let at = c.count_at-at.result in
    let ids = gathered n a.ids.now a.places.now in
    let e = previous_span old c.requires.previous_id in
    let q : at ≡ 10 + length old = c.count_at-at.ensures.0 ∙ omega arith in
    let len : at + 1 + 32 * n ≡ acceptor_len (has_previous old) n = omega (arith, c.count_at-at.ensures.0) in
    let h = head_bytes (acceptor_len (has_previous old) n) 2 a.house a.bay a.signer in
    let m = marker (has_previous old) ∷ [] in
    let k₀ = head_length (acceptor_len (has_previous old) n) 2 a.house a.bay a.signer in
    let k₁ = length-append h m in
    let k₂ = length-append (h ++ m) old in
    let k₃ = length-append (h ++ m ++ old) (n ∷ []) in
    let w₀ = c.write_head.ensures ∙ ap (λ (x : ℕ). fronted (head_bytes x 2 a.house a.bay a.signer) b) len in
    let w₁ = c.put8.ensures ∙ ap (λ (x : ℕ). put_at c.write_head.new.buf 9 (x ∷ [])) (c.from.ensures ∙ marker_byte (has_previous old)) in
    let m₁ = more_at h m b c.write_head.new.buf c.put8.new.buf 9 k₀ w₀ w₁ in
    let m₂ = more_at (h ++ m) old b c.put8.new.buf c.put_all.new.buf 10 (omega arith) m₁ c.put_all.ensures in
    let m₃ = more_at (h ++ m ++ old) (n ∷ []) b c.put_all.new.buf c.put8-2.new.buf at (omega arith) m₂ c.put8-2.ensures in
    let m₄ = more_at (h ++ m ++ old ++ (n ∷ [])) ids b c.put8-2.new.buf c.put_references.new.buf (at + 1) (omega arith) m₃ c.put_references.ensures in
    let g = gathered_length n a.ids.now a.places.now (λ i h. c.requires.within i h) in
    (len ∙ sym (acceptor_length_lem a.house a.bay a.signer old n ids e g), m₄)
