-- The known places of a round reached by calls: each holds accepted bytes, and they are accepted places in the words of the crate protocol.
-- So a round reached from an opening passes 17, and what lies beneath a known message is known. And where messages are told apart by their ids, one id
-- has one content, in one round and in two.
use mathlib.Core.Path.{◌≡◌, sym, ap, ◌∙◌}
use mathlib.Core.List.Memᴰ
use mathlib.Core.List.{List, ◌++◌}
use Prim.Native.Nat.{ℕ, ◌<◌}
use native.Mathlib.Omega.{arith}
use lib.ListN.{length}
use lib.Dec.{T}
use Rattle.base.specs.Tests.{◌∈◌, below}
use Rattle.base.proofs.Tests.{filter_in, filter_out, below_in, below_out}
use Rattle.protocol.specs.Ids.{Id}
use Rattle.protocol.specs.Table.{Table, at, held_id, content}
use Rattle.protocol.specs.Theorems.{Within, Accepted}
use Rattle.protocol.specs.Theorems as theorems
use Rattle.protocol.proofs.Reach.{reach_inside}
use Rattle.round.specs.Round.{Round}
use Rattle.round.specs.Holdings.{table_of, is_known, known_places}
use Rattle.round.specs.Answers.{Page}
use Rattle.round.specs.Lists.{Call, run, last_round, accepted, written, pages}
use Rattle.round.specs.Premises.{IdRule, Starts}
use Rattle.round.specs.Demands.{NoCollision, ReachedFits, KnownBeneath}
use Rattle.round.proofs.Step.{content_in, Readable}
use Rattle.round.proofs.CallLaws.{CallLaws}
use Rattle.round.proofs.Canonical.{table_size}
use Rattle.round.proofs.Kept.{Source, source_inside}
use Rattle.round.proofs.Reached.{Reached, Grows, grows_size}
use Rattle.round.proofs.Lists.{Stands, fresh_reached, list_keeps, page_stands}

-- ---- all places, and the known ones
abbrev pub held_places : Round → List ℕ
held_places r = below r.held

pub held_inside : (r : Round) (p : ℕ) → p ∈ held_places r → p < length (table_of r)
held_inside r p m = omega (arith, below_out r.held m, table_size r)

pub known_in : (r : Round) (p : ℕ) → p < r.held → T (is_known r p) → p ∈ known_places r
known_in r p l h = filter_in (is_known r) (below_in r.held l) h

pub known_out : (r : Round) (p : ℕ) → p ∈ known_places r → (p < r.held) × T (is_known r p)
known_out r p m = let (i, h) = filter_out (is_known r) (below r.held) m in (below_out r.held i, h)

pub known_stays : {r s : Round} → Grows r s → Within (known_places r) (known_places s)
known_stays {r} {s} g p m = let (l, h) = known_out r p m in known_in s p (omega (arith, grows_size g)) (g.known p l h)

-- ---- in a round reached by calls
-- the place p holds accepted bytes
pub record Heard (H : List ℕ → Id) (A : List (List ℕ)) (t : Table) (p : ℕ) : Type 0 where
  pub bytes : List ℕ
  pub inside : bytes ∈ A
  pub readable : Readable bytes
  pub id : held_id (at t p) ≡ H bytes
  pub contents : content t p ≡ content_in bytes

module _ {H : List ℕ → Id} {A W : List (List ℕ)} {r : Round} (reached : Reached H A W r) (free : NoCollision H (A ++ W)) where
  inside : (p : ℕ) → p ∈ known_places r → p < length (table_of r)
  inside p m = held_inside r p (filter_out (is_known r) (held_places r) m).0

  pub accepted_places : Accepted (table_of r) (known_places r)
  accepted_places = record {
    chains = record {
      ordered = reached.kept.ordered;
      closed = λ i j m k. known_in r j (omega (arith, reached.kept.ordered i j k, (known_out r i m).0)) ((reached.kept.checked free i (inside i m) (known_out r i m).1).beneath j k);
      links = λ i m. (reached.kept.checked free i (inside i m) (known_out r i m).1).links;
    };
    forms = λ i m. (reached.kept.checked free i (inside i m) (known_out r i m).1).forms;
  }

  pub heard : (p : ℕ) → p ∈ known_places r → Heard H A (table_of r) p
  heard p m = step (reached.kept.source p (inside p m)) (reached.kept.delivered p (inside p m) (known_out r p m).1)
    where
      step : Source H A W (table_of r) (at (table_of r) p) → (b : List ℕ) × (b ∈ A) × (held_id (at (table_of r) p) ≡ H b) → Heard H A (table_of r) p
      step s (b, i, e) = record {
        bytes = s.bytes;
        inside = Memᴰ.cast (free s.bytes b (source_inside s) (Memᴰ.append_left W i) (sym s.id ∙ e)) i;
        readable = s.readable;
        id = s.id;
        contents = s.content;
      }

-- ---- in two rounds whose messages are told apart by their ids, one id has one content: at all places, and so at the known ones
module _ {H : List ℕ → Id} {A W B X M : List (List ℕ)} {r s : Round} (reached₁ : Reached H A W r) (reached₂ : Reached H B X s)
    (inM₁ : Within (A ++ W) M) (inM₂ : Within (B ++ X) M) (free : NoCollision H M) where
  pub held_apart : theorems.NoCollision (table_of r) (held_places r) (table_of s) (held_places s)
  held_apart i j m k e =
      let x = reached₁.kept.source i (held_inside r i m) in
      let y = reached₂.kept.source j (held_inside s j k) in
      x.content
      ∙ ap content_in (free x.bytes y.bytes (inM₁ x.bytes (source_inside x)) (inM₂ y.bytes (source_inside y)) (sym x.id ∙ e ∙ y.id))
      ∙ sym y.content

  pub known_apart : theorems.NoCollision (table_of r) (known_places r) (table_of s) (known_places s)
  known_apart i j m k e = held_apart i j (filter_out (is_known r) (held_places r) m).0 (filter_out (is_known s) (held_places s) k).0 e

-- ---- from an opening, over a whole list
module _ (laws : CallLaws) {H : List ℕ → Id} (rule : IdRule H) {file : List ℕ} {house bay own : ℕ} {r : Round} (starts : Starts file house bay own r) (l : List Call) where
  pub reached_last : Reached H (accepted (run H r l)) (written (run H r l)) (last_round H r l) × Grows r (last_round H r l)
  reached_last = list_keeps laws H rule (accepted (run H r l)) (written (run H r l)) r l
      (fresh_reached laws H rule (accepted (run H r l)) (written (run H r l)) (laws.opening file house bay own r starts)) (λ m i. i) (λ m i. i)

  -- each report of the list stands on a round that the list passes through
  pub page_in_list : (c : ℕ) (p : Page) → p ∈ pages c (run H r l) → Stands H (accepted (run H r l)) (written (run H r l)) c p (last_round H r l)
  page_in_list c p i = page_stands laws H rule (accepted (run H r l)) (written (run H r l)) c p r l
      (fresh_reached laws H rule (accepted (run H r l)) (written (run H r l)) (laws.opening file house bay own r starts)) (λ m j. j) (λ m j. j) i

pub reached_fits : CallLaws → ReachedFits
reached_fits laws H rule file house bay own r starts l = (reached_last laws rule starts l).0.fitting

pub known_beneath : CallLaws → KnownBeneath
known_beneath laws H rule file house bay own r starts l free p q m h =
    reach_inside (table_of (last_round H r l)) (known_places (last_round H r l)) (accepted_places (reached_last laws rule starts l).0 free).chains p q m h
