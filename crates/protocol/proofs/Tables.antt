-- Two tables without colliding ids: equal ids have equal messages, the messages of both are one chained set and the accepted ones a lawful
-- one, and so the reports of the one and of the other agree.
use mathlib.Core.Path.{◌≡◌, refl, sym, ap, subst, ◌∙◌}
use mathlib.Core.Logic.{◌⊎◌, inl, inr}
use mathlib.Core.List.Memᴰ
use mathlib.Core.List.{List, [], ◌∷◌, ◌++◌}
use Prim.Native.Nat.{ℕ, zero, suc, ◌<◌}
use native.Mathlib.Omega.{arith}
use lib.Dec.{T}
use Rattle.base.specs.Tests.{◌∈◌}
use Rattle.base.proofs.Tests.{map_in, map_out}
use Rattle.protocol.specs.Message.{Message, cons, tran, id_of}
use Rattle.protocol.specs.WellFormed.{chained, formed1b}
use Rattle.protocol.specs.Table.{Held, offers, says, Table, at, held_id, places, gather, node_by, tree, messages, ids_at, content_of}
use Rattle.protocol.specs.Theorems.{Chained, Lawful, Within, ChainedAt, Accepted, NoCollision, TablesAgree}
use Rattle.protocol.proofs.Agreement.{reports_agree}
use Rattle.protocol.proofs.Table.{tree_is, tree_id, tran_places}
use Rattle.protocol.proofs.Reach.{reach_inside}

-- ---- equal ids, equal messages
gather_same : (t u : Table) (r q : List ℕ) → ids_at t r ≡ ids_at u q
    → ((k l : ℕ) → k ∈ r → l ∈ q → held_id (at t k) ≡ held_id (at u l) → tree t k ≡ tree u l) → gather (tree t) r ≡ gather (tree u) q
unfolding gather ids_at
gather_same t u [] [] e f = refl
gather_same t u [] (l ∷ q) e f = cc
gather_same t u (k ∷ r) [] e f = cc
gather_same t u (k ∷ r) (l ∷ q) e f =
    let first : held_id (at t k) ≡ held_id (at u l) = cc in
    let others : ids_at t r ≡ ids_at u q = cc in
    λ i. cons (f k l (Memᴰ.head refl) (Memᴰ.head refl) first i) (gather_same t u r q others (λ m n a b. f m n (Memᴰ.tail a) (Memᴰ.tail b)) i)

node_same : (t u : Table) (r q : Held) → held_id r ≡ held_id q → content_of t r ≡ content_of u q
    → ((k l : ℕ) → k ∈ places r → l ∈ places q → held_id (at t k) ≡ held_id (at u l) → tree t k ≡ tree u l) → node_by (tree t) r ≡ node_by (tree u) q
unfolding node_by content_of held_id places
node_same t u (offers i s b) (offers j v c) d e f = cc
node_same t u (offers i s b) (says j v o q) d e f = cc
node_same t u (says i s p r) (offers j v c) d e f = cc
node_same t u (says i s p r) (says j v o q) d e f =
    let same : ids_at t r ≡ ids_at u q = cc in
    let refs : gather (tree t) r ≡ gather (tree u) q = gather_same t u r q same f in
    cc

module _ (t u : Table) (ks js : List ℕ) (at₁ : ChainedAt t ks) (at₂ : ChainedAt u js) (free : NoCollision t ks u js) where
  same_bounded : (n i j : ℕ) → i < n → i ∈ ks → j ∈ js → held_id (at t i) ≡ held_id (at u j) → tree t i ≡ tree u j
  same_bounded zero i j h ki kj e = absurd (omega arith)
  same_bounded (suc n) i j h ki kj e =
      tree_is t at₁.ordered i
      ∙ node_same t u (at t i) (at u j) e (free i j ki kj e) (λ k l a b d. same_bounded n k l (omega (arith, at₁.ordered i k a)) (at₁.closed i k ki a) (at₂.closed j l kj b) d)
      ∙ sym (tree_is u at₂.ordered j)

  pub same_tree : (i j : ℕ) → i ∈ ks → j ∈ js → id_of (tree t i) ≡ id_of (tree u j) → tree t i ≡ tree u j
  same_tree i j ki kj e = same_bounded (suc i) i j (omega arith) ki kj (sym (tree_id t i) ∙ e ∙ tree_id u j)

-- ---- the messages at some places
pub messages_in : (t : Table) (ks : List ℕ) (i : ℕ) → i ∈ ks → tree t i ∈ messages t ks
unfolding messages
messages_in t ks i m = map_in (tree t) m

pub messages_out : (t : Table) (ks : List ℕ) (x : Message) → x ∈ messages t ks → (i : ℕ) × (i ∈ ks) × (x ≡ tree t i)
unfolding messages
messages_out t ks x h = map_out (tree t) ks h

pub messages_within : (t : Table) (is ks : List ℕ) → Within is ks → Within (messages t is) (messages t ks)
messages_within t is ks w x h = let (i, m, e) = messages_out t is x h in Memᴰ.cast e (messages_in t ks i (w i m))

-- ---- the messages of both tables are a chained set, and the accepted ones a lawful one
module _ (t u : Table) (ks js : List ℕ) (at₁ : ChainedAt t ks) (at₂ : ChainedAt u js)
    (free₁ : NoCollision t ks t ks) (free : NoCollision t ks u js) (free₂ : NoCollision u js u js) where
  -- x is the message of such a place of one of them
  abbrev Placed : Message → Type 0
  Placed x = ((i : ℕ) × (i ∈ ks) × (x ≡ tree t i)) ⊎ ((j : ℕ) × (j ∈ js) × (x ≡ tree u j))

  into : (x : Message) → Placed x → x ∈ messages t ks ++ messages u js
  into x (inl (i, m, e)) = Memᴰ.append_left (messages u js) (Memᴰ.cast e (messages_in t ks i m))
  into x (inr (j, m, e)) = Memᴰ.append_right (messages t ks) (Memᴰ.cast e (messages_in u js j m))

  out : (x : Message) → x ∈ messages t ks ++ messages u js → Placed x
  out x h = step (Memᴰ.append_cases (messages t ks) h)
    where
      step : (x ∈ messages t ks) ⊎ (x ∈ messages u js) → Placed x
      step (inl q) = inl (messages_out t ks x q)
      step (inr q) = inr (messages_out u js x q)

  beneath_of : (v : Table) (hs : List ℕ) → ChainedAt v hs → (m x : Message) (i : ℕ) → i ∈ hs → m ≡ tree v i → x ∈ tran m → (j : ℕ) × (j ∈ hs) × (x ≡ tree v j)
  beneath_of v hs law m x i k e h =
      let (j, r, d) = (tran_places v law.ordered i x).0 (subst (λ (y : Message). x ∈ tran y) e h) in
      (j, reach_inside v hs law i j k r, d)

  shut : (m x : Message) → Placed m → x ∈ tran m → Placed x
  shut m x (inl (i, k, e)) h = inl (beneath_of t ks at₁ m x i k e h)
  shut m x (inr (j, k, e)) h = inr (beneath_of u js at₂ m x j k e h)

  turned : NoCollision u js t ks
  turned i j ki kj e = sym (free j i kj ki (sym e))

  one_id : (x y : Message) → Placed x → Placed y → id_of x ≡ id_of y → x ≡ y
  one_id x y (inl (i, k, e)) (inl (j, l, d)) q = e ∙ same_tree t t ks ks at₁ at₁ free₁ i j k l (ap id_of (sym e) ∙ q ∙ ap id_of d) ∙ sym d
  one_id x y (inl (i, k, e)) (inr (j, l, d)) q = e ∙ same_tree t u ks js at₁ at₂ free i j k l (ap id_of (sym e) ∙ q ∙ ap id_of d) ∙ sym d
  one_id x y (inr (i, k, e)) (inl (j, l, d)) q = e ∙ same_tree u t js ks at₂ at₁ turned i j k l (ap id_of (sym e) ∙ q ∙ ap id_of d) ∙ sym d
  one_id x y (inr (i, k, e)) (inr (j, l, d)) q = e ∙ same_tree u u js js at₂ at₂ free₂ i j k l (ap id_of (sym e) ∙ q ∙ ap id_of d) ∙ sym d

  each : (P : Message → Type 0) → ((i : ℕ) → i ∈ ks → P (tree t i)) → ((j : ℕ) → j ∈ js → P (tree u j)) → (m : Message) → Placed m → P m
  each P f g m (inl (i, k, e)) = subst P (sym e) (f i k)
  each P f g m (inr (j, k, e)) = subst P (sym e) (g j k)

  pub chained_set : Chained (messages t ks ++ messages u js)
  chained_set = record {
    closed = λ m x h k. into x (shut m x (out m h) k);
    links = λ m h. each (λ m. T (chained m)) at₁.links at₂.links m (out m h);
    apart = λ x y h k e. one_id x y (out x h) (out y k) e;
  }

  lawful_set : ((i : ℕ) → i ∈ ks → T (formed1b (tree t i))) → ((j : ℕ) → j ∈ js → T (formed1b (tree u j))) → Lawful (messages t ks ++ messages u js)
  lawful_set forms₁ forms₂ = record { chains = chained_set; forms = λ m h. each (λ m. T (formed1b m)) forms₁ forms₂ m (out m h) }

pub lawful : (t u : Table) (ks js : List ℕ) → Accepted t ks → Accepted u js → NoCollision t ks t ks → NoCollision t ks u js → NoCollision u js u js
    → Lawful (messages t ks ++ messages u js)
lawful t u ks js at₁ at₂ free₁ free free₂ = lawful_set t u ks js at₁.chains at₂.chains free₁ free free₂ at₁.forms at₂.forms

-- ---- AGREEMENT BETWEEN TABLES
pub tables_agree : TablesAgree
tables_agree G sound t u ks js at₁ at₂ free₁ free free₂ a b la lb tied is hs iw hw =
    reports_agree G sound (messages t ks ++ messages u js) (lawful t u ks js at₁ at₂ free₁ free free₂) a b la lb tied (messages t is) (messages u hs)
    (λ m k. Memᴰ.append_left (messages u js) (messages_within t is ks iw m k))
    (λ m k. Memᴰ.append_right (messages t ks) (messages_within u hs js hw m k))
