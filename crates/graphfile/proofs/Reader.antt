-- Laws of the reader of graph files.
use mathlib.Core.Path.{◌≡◌, refl, ap, ap₂, sym, ◌∙◌, subst}
use mathlib.Core.Bool.{Bool, true, false, ◌&&◌}
use mathlib.Core.Logic.{◌⊎◌, inl, inr}
use mathlib.Core.List.Memᴰ
use mathlib.Core.List.{List, [], ◌∷◌, ◌++◌, append-nil, append_assoc}
use Prim.Native.Nat.{ℕ, zero, suc, ◌+◌, ◌-◌, ◌*◌, ◌^◌, ◌≤◌, ◌<◌}
use native.Mathlib.Numerals.{add-one}
use native.Mathlib.Nat.{add-zero}
use native.Mathlib.Omega.{arith}
use borrow.Author.Tests.{lt-ltb, le-ltb, ltb-true, ltb-false, leb-true, eq-eqb, ne_eqb, le-leb, lt-leb}
use lib.Dec.{ltb, leb, eqb}
use lib.ListN.{length, get_or, set, take, drop, length-append}
use Rattle.std.proofs.lemmas.List.{drop-take}
use lib.Seq.{slice, take-append_seam, get_or-append_seam, paste-suc, take-length, length-take-le, take_at, drop_at}
use Rattle.std.proofs.Common.{Result, Ok, Err}
use Rattle.base.specs.Tests.{◌∈◌, pick, any}
use Rattle.base.specs.Sets.{has, contains}
use Rattle.base.specs.Bytes.{be, put_at}
use Rattle.base.specs.declared.refusal.Refusal.{Refusal}
use Rattle.base.specs.declared.refusal.Refusal.TheVariants.{Length, Range, Order, Mask}
use Rattle.graph.specs.declared.Graph.{Graph}
use Rattle.graph.specs.Limits.{max_masks}
use Rattle.graphfile.specs.File.{Got, got, no, and_then, after_check, last, mask_answer, read_count, read_masks, read_list, read_lists, read_rows, Contents, read_graph}
use Rattle.graph.specs.Memory.{pair_list}
use Rattle.graphfile.specs.Arrays.{ListArrays, hold, hold_all, hold_rows}
use Rattle.graphfile.specs.Inside.Steps.{field_of, MasksHeld, lists_in, with_lists, HeldAfter}

-- ---- lists
last_behind : (d x : ℕ) (l : List ℕ) → last d (x ∷ l) ≡ get_or (x ∷ l) (length l) 0
unfolding last
last_behind d x [] = refl
last_behind d x (y ∷ l) = last_behind x y l

pub last_get : (l : List ℕ) → last 0 l ≡ get_or l (length l - 1) 0
unfolding last
last_get [] = refl
last_get (x ∷ l) = let e : length l ≡ suc (length l) - 1 = omega arith in last_behind 0 x l ∙ ap (λ (k : ℕ). get_or (x ∷ l) k 0) e

pub last_snoc : (d : ℕ) (l : List ℕ) (m : ℕ) → last d (l ++ (m ∷ [])) ≡ m
unfolding last
last_snoc d [] m = refl
last_snoc d (x ∷ l) m = last_snoc x l m

-- what was put in is there
pub part_put : (b l m : List ℕ) (first j : ℕ) → m ≡ put_at b first l → length l ≡ j → first + j ≤ length b → slice first (first + j) m ≡ l
part_put b l m first j e f h =
    let t : length (take first b) ≡ first = length-take-le first b (omega arith) in
    let u : length (take first b ++ l) ≡ first + j = length-append (take first b) l ∙ ap₂ ◌+◌ t f in
    ap (λ (x : List ℕ). slice first (first + j) x) e ∙ ap (drop first) (take_at (take first b ++ l) (drop (first + length l) b) (first + j) u) ∙ drop_at (take first b) l first t

-- and is what is lent of it
pub part_lent : (b l m : List ℕ) (first j : ℕ) → m ≡ put_at b first l → length l ≡ j → first + j ≤ length b → take (first + j - first) (drop first m) ≡ l
part_lent b l m first j e f h =
    let n : first + j - first ≡ j = omega arith in
    ap (λ (k : ℕ). take k (drop first m)) n ∙ sym (drop-take first j m) ∙ part_put b l m first j e f h

-- one more put in behind
pub put_more : (b l m : List ℕ) (first j x : ℕ) → m ≡ put_at b first l → length l ≡ j → first + j < length b
    → set m (first + j) x ≡ put_at b first (l ++ (x ∷ []))
put_more b l m first j x e f h =
    let s : List ℕ = l ++ (x ∷ []) in
    let n : length s ≡ suc (length l) = length-append l (x ∷ []) ∙ add-one (length l) in
    ap₂ (λ (y : List ℕ) (k : ℕ). set y (first + k) x) e (sym f)
    ∙ ap₂ (λ (y : List ℕ) (z : ℕ). set (take first b ++ y ++ drop (first + length l) b) (first + length l) z) (sym (take-append_seam l (x ∷ []))) (sym (get_or-append_seam l x [] 0))
    ∙ paste-suc b first s (length l) 0 (omega arith) (omega arith)
    ∙ ap (λ (k : ℕ). take first b ++ take k s ++ drop (first + k) b) (sym n)
    ∙ ap (λ (y : List ℕ). take first b ++ y ++ drop (first + length s) b) (take-length s)

-- ---- what was read, from what the whole gave
module _ {A : Type 0} where
  pub pick_got : (b : Bool) (r : Refusal) (g : Got A) (x : A) (n : ℕ) → pick b (no r) g ≡ got x n → (b ≡ false) × (g ≡ got x n)
  pick_got true r g x n e = let z : ◌≡◌ {A = ℕ} 0 1 = cc in absurd (omega arith)
  pick_got false r g x n e = (refl, e)

  pub check_got : (a : Result Unit Refusal) (g : Got A) (x : A) (n : ℕ) → after_check a g ≡ got x n → (a ≡ Ok tt) × (g ≡ got x n)
  check_got (Ok t) g x n e = (refl, e)
  check_got (Err r) g x n e = let z : ◌≡◌ {A = ℕ} 0 1 = cc in absurd (omega arith)

  pub then_got : {B : Type 0} (g : Got A) (f : A → ℕ → Got B) (y : B) (n : ℕ) → and_then g f ≡ got y n → (x : A) × (m : ℕ) × (g ≡ got x m) × (f x m ≡ got y n)
  then_got (got x m) f y n e = (x, m, refl, e)
  then_got (no r) f y n e = let z : ◌≡◌ {A = ℕ} 0 1 = cc in absurd (omega arith)

pub value_no : (g : Got ℕ) (r : Refusal) → field_of g ≡ Err r → g ≡ no r
value_no (got x at) r e = let z : ◌≡◌ {A = ℕ} 0 1 = cc in absurd (omega arith)
value_no (no q) r e = ap no (cc)

-- a count that was read
pub count_is : (s : List ℕ) (low high at x : ℕ) → field_of (read_count s low high at) ≡ Ok x
    → (at < length s) × (low ≤ x) × (x ≤ high) × (get_or s at 0 ≡ x) × (read_count s low high at ≡ got x (at + 1))
count_is s low high at x e = here (ltb at (length s)) refl (leb low v) refl (leb v high) refl e
  where
    v : ℕ
    v = get_or s at 0

    here : (b : Bool) → ltb at (length s) ≡ b → (c : Bool) → leb low v ≡ c → (d : Bool) → leb v high ≡ d
        → field_of (pick b (pick (c && d) (got v (at + 1)) (no Range)) (no Length)) ≡ Ok x
        → (at < length s) × (low ≤ x) × (x ≤ high) × (v ≡ x) × (read_count s low high at ≡ got x (at + 1))
    here false p c q d r e = let z : ◌≡◌ {A = ℕ} 0 1 = cc in absurd (omega arith)
    here true p false q d r e = let z : ◌≡◌ {A = ℕ} 0 1 = cc in absurd (omega arith)
    here true p true q false r e = let z : ◌≡◌ {A = ℕ} 0 1 = cc in absurd (omega arith)
    here true p true q true r e =
        let f : v ≡ x = cc in
        let l = leb-true low v q in
        let h = leb-true v high r in
        (ltb-true at (length s) p, omega arith, omega arith, f, simp (p, q, r) (ap (λ (y : ℕ). got y (at + 1)) f))

-- ---- the checks of one mask, in their order
module _ (n : ℕ) (e : List ℕ) (m : ℕ) where
  pub mask_zero : m ≡ 0 → mask_answer n e m ≡ Err Mask
  mask_zero h = simp (eq-eqb m 0 h)

  pub mask_unknown : (m ≡ 0 → ⊥) → 2 ^ n ≤ m → mask_answer n e m ≡ Err Mask
  mask_unknown z h = simp (ne_eqb m 0 z, le-leb (2 ^ n) m h)

  pub mask_order : (m ≡ 0 → ⊥) → m < 2 ^ n → m ≤ last 0 e → mask_answer n e m ≡ Err Order
  mask_order z k h = simp (ne_eqb m 0 z, lt-leb (2 ^ n) m k, le-leb m (last 0 e) h)

  pub mask_last : (m ≡ 0 → ⊥) → m < 2 ^ n → last 0 e < m → (b : Bool) → any (contains n (has m)) e ≡ b → mask_answer n e m ≡ pick b (Err Mask) (Ok tt)
  mask_last z k h b f = simp (ne_eqb m 0 z, lt-leb (2 ^ n) m k, lt-leb m (last 0 e) h) (ap (λ (x : Bool). pick x (Err Mask) (Ok tt)) f)

module _ (s : List ℕ) (n : ℕ) where
  -- ---- one mask more
  pub masks_short : (k : ℕ) (e : List ℕ) (at : ℕ) → length s < at + 2 → read_masks s n (suc k) e at ≡ no Length
  unfolding read_masks
  masks_short k e at h = simp (lt-ltb (length s) (at + 2) h)

  pub masks_go : (k : ℕ) (e : List ℕ) (at : ℕ) (a : Result Unit Refusal) → at + 2 ≤ length s → mask_answer n e (be 2 s at) ≡ a
      → read_masks s n (suc k) e at ≡ after_check a (read_masks s n k (e ++ (be 2 s at ∷ [])) (at + 2))
  unfolding read_masks
  masks_go k e at a h f =
      simp (le-ltb (length s) (at + 2) h) (ap (λ (x : Result Unit Refusal). after_check x (read_masks s n k (e ++ (be 2 s at ∷ [])) (at + 2))) f)

  -- ---- how many were read, and where they end
  pub masks_got : (k : ℕ) (e : List ℕ) (at : ℕ) (l : List ℕ) (next : ℕ) → at ≤ length s → read_masks s n k e at ≡ got l next
      → (length l ≡ length e + k) × (next ≤ length s) × (next ≡ at + 2 * k)
  unfolding read_masks
  masks_got zero e at l next h f =
      let p : e ≡ l = cc in
      let q : at ≡ next = cc in
      let r = ap length p in
      (omega arith, omega arith, omega arith)
  masks_got (suc k) e at l next h f =
      let m = be 2 s at in
      let (p, f₁) = pick_got (ltb (length s) (at + 2)) Length _ l next f in
      let (q, f₂) = check_got (mask_answer n e m) _ l next f₁ in
      let i = ltb-false (length s) (at + 2) p in
      let (x, y, z) = masks_got k (e ++ (m ∷ [])) (at + 2) l next i f₂ in
      let w = length-append e (m ∷ []) in
      (omega arith, y, omega arith)

  -- what is said of a list that was read
  pub record ListGot (low at : ℕ) (l : List ℕ) (next : ℕ) : Type 0 where
    pub inside : at < length s
    pub count : get_or s at 0 ≡ length l
    pub enough : low ≤ length l
    pub small : length l ≤ max_masks
    pub ends : next ≤ length s
    pub masks : read_masks s n (length l) [] (at + 1) ≡ got l next

  pub list_got : (low at : ℕ) (l : List ℕ) (next : ℕ) → read_list s n low at ≡ got l next → ListGot low at l next
  unfolding read_list
  list_got low at l next e =
      let (k, m, f, g) = then_got (read_count s low max_masks at) (λ k at'. read_masks s n k [] at') l next e in
      let (i, a, b, v, r) = count_is s low max_masks at k (ap field_of f) in
      let w : m ≡ at + 1 = cc in
      let g' = subst (λ (x : ℕ). read_masks s n k [] x ≡ got l next) w g in
      let (p, q, t) = masks_got k [] (at + 1) l next (omega arith) g' in
      let p' : k ≡ length l = omega arith in
      record { inside = i; count = omega arith; enough = omega arith; small = omega arith; ends = q; masks = subst (λ (x : ℕ). read_masks s n x [] (at + 1) ≡ got l next) p' g' }

-- ---- what a step's answer says of what was read
pub held_got : (first : ℕ) (b a : List ℕ) (g : Got (List ℕ)) (f : Result ℕ Refusal) (next : ℕ) → MasksHeld g f first b a → f ≡ Ok next
    → (l : List ℕ) × (g ≡ got l next) × (a ≡ put_at b first l)
held_got first b a (got l m) f next h e = let p : m ≡ next = cc h.0 in (l, ap (got l) p, h.1)
held_got first b a (no r) f next h e = let z : ◌≡◌ {A = ℕ} 0 1 = cc in absurd (omega arith)

module _ {A : Type 0} (put : A → ListArrays → ListArrays) (b h : Graph) where
  pub after_got : (g : Got A) (f : Result ℕ Refusal) (next : ℕ) → HeldAfter g put f b h → f ≡ Ok next → (x : A) × (g ≡ got x next) × (h ≡ with_lists b (put x (lists_in b)))
  after_got (got x m) f next p e = let q : m ≡ next = cc p.0 in (x, ap (got x) q, p.1)
  after_got (no r) f next p e = let z : ◌≡◌ {A = ℕ} 0 1 = cc in absurd (omega arith)

  pub after_no : (g : Got A) (f : Result ℕ Refusal) (r : Refusal) → HeldAfter g put f b h → f ≡ Err r → g ≡ no r
  after_no (got x m) f r p e = let z : ◌≡◌ {A = ℕ} 0 1 = cc p.0 in absurd (omega arith)
  after_no (no q) f r p e = ap no (cc)

  -- what is promised of it
  pub promised_no : (g : Got A) (f : Result ℕ Refusal) (r : Refusal) → f ≡ Err r → g ≡ no r → HeldAfter g put f b h
  promised_no g f r e d = subst (λ (x : Got A). HeldAfter x put f b h) (sym d) e

  pub promised_got : (g : Got A) (x : A) (next : ℕ) → g ≡ got x next → h ≡ with_lists b (put x (lists_in b)) → HeldAfter g put (Ok next) b h
  promised_got g x next d e = subst (λ (y : Got A). HeldAfter y put (Ok next) b h) (sym d) (refl, e)

-- a list was put in, as its count and its masks were
module _ (s : List ℕ) (n low at k : ℕ) (b : Graph) (m : List ℕ) (f : Result ℕ Refusal) where
  abbrev with_list : Graph
  with_list = record { acceptors = b.acceptors; learners = b.learners; counts = set b.counts k (get_or s at 0); masks = m }

  pub list_held : (x : ℕ) → field_of (read_count s low max_masks at) ≡ Ok x → MasksHeld (read_masks s n x [] (at + 1)) f (max_masks * k) b.masks m
      → HeldAfter (read_list s n low at) (hold k) f b with_list
  unfolding read_list
  list_held x e h = by (read_masks s n x [] (at + 1)) (whole _ refl) h
    where
      whole : (g : Got (List ℕ)) → read_masks s n x [] (at + 1) ≡ g → read_list s n low at ≡ g
      whole g d = ap (λ (y : Got ℕ). and_then y (λ k' at'. read_masks s n k' [] at')) (count_is s low max_masks at x e).4 ∙ d

      by : (g : Got (List ℕ)) → read_list s n low at ≡ g → MasksHeld g f (max_masks * k) b.masks m → HeldAfter (read_list s n low at) (hold k) f b with_list
      by (got l next) d h =
          let t = list_got s n low at l next d in
          subst (λ (y : Got (List ℕ)). HeldAfter y (hold k) f b with_list) (sym d)
          (h.0, λ i. record { acceptors = b.acceptors; learners = b.learners; counts = set b.counts k (t.count i); masks = h.1 i })
      by (no q) d h = promised_no (hold k) b with_list (read_list s n low at) f q h d

-- ---- one list, or one row, put in behind the others
pub hold_more : (f : ℕ → ℕ) (i : ℕ) (ls : List (List ℕ)) (l : List ℕ) (h : ListArrays) → hold_all f i (ls ++ (l ∷ [])) h ≡ hold (f (i + length ls)) l (hold_all f i ls h)
unfolding hold_all
hold_more f i [] l h = ap (λ (k : ℕ). hold (f k) l h) (sym (add-zero i))
hold_more f i (x ∷ ls) l h =
    hold_more f (suc i) ls l (hold (f i) x h)
    ∙ ap (λ (k : ℕ). hold (f k) l (hold_all f (suc i) ls (hold (f i) x h))) (let e : suc i + length ls ≡ i + suc (length ls) = omega arith in e)

pub rows_more : (a : ℕ) (rs : List (List (List ℕ))) (r : List (List ℕ)) (h : ListArrays)
    → hold_rows a (rs ++ (r ∷ [])) h ≡ hold_all (pair_list (a + length rs)) (a + length rs) r (hold_rows a rs h)
unfolding hold_rows
rows_more a [] r h = ap (λ (k : ℕ). hold_all (pair_list k) k r h) (sym (add-zero a))
rows_more a (x ∷ rs) r h =
    rows_more (suc a) rs r (hold_all (pair_list a) a x h)
    ∙ ap (λ (k : ℕ). hold_all (pair_list k) k r (hold_rows (suc a) rs (hold_all (pair_list a) a x h))) (let e : suc a + length rs ≡ a + suc (length rs) = omega arith in e)

-- ---- the lists of a loop: those that were read are put in, and the others are still to be read
pub record Filled (s : List ℕ) (low total at first : ℕ) (f : ℕ → ℕ) (before : Graph) (here i : ℕ) (after : Graph) : Type 0 where
  pub read : List (List ℕ)
  pub many : length read ≡ i
  pub held : after ≡ with_lists before (hold_all f first read (lists_in before))
  pub inside : here ≤ length s
  pub rest : read_lists s before.acceptors low total [] at ≡ read_lists s before.acceptors low (total - i) read here

module _ (s : List ℕ) (low total at first : ℕ) (f : ℕ → ℕ) (before : Graph) (here i : ℕ) (after : Graph) (F : Filled s low total at first f before here i after) where
  pub filled_kept : after.acceptors ≡ before.acceptors
  filled_kept = ap (λ (g : Graph). g.acceptors) F.held

  filled_now : (k : ℕ) (r : Result ℕ Refusal) (g : Graph) → HeldAfter (read_list s after.acceptors low here) (hold k) r after g → HeldAfter (read_list s before.acceptors low here) (hold k) r after g
  filled_now k r g h = subst (λ (x : ℕ). HeldAfter (read_list s x low here) (hold k) r after g) filled_kept h

  step : i < total → total - i ≡ suc (total - (i + 1))
  step h = omega arith

  go_on : (g : Got (List ℕ)) → i < total → read_list s before.acceptors low here ≡ g
      → read_lists s before.acceptors low total [] at ≡ and_then g (λ l at'. read_lists s before.acceptors low (total - (i + 1)) (F.read ++ (l ∷ [])) at')
  unfolding read_lists
  go_on g h e =
      F.rest ∙ ap (λ (k : ℕ). read_lists s before.acceptors low k F.read here) (step h)
      ∙ ap (λ (x : Got (List ℕ)). and_then x (λ l at'. read_lists s before.acceptors low (total - (i + 1)) (F.read ++ (l ∷ [])) at')) e

  pub filled_no : (k : ℕ) (r q : Result ℕ Refusal) (x : Refusal) (g h : Graph) → i < total → HeldAfter (read_list s after.acceptors low here) (hold k) r after g → r ≡ Err x → q ≡ Err x
      → HeldAfter (read_lists s before.acceptors low total [] at) (hold_all f first) q before h
  filled_no k r q x g h l p e d =
      promised_no (hold_all f first) before h (read_lists s before.acceptors low total [] at) q x d
      (go_on (no x) l (after_no (hold k) after g (read_list s before.acceptors low here) r x (filled_now k r g p) e))

  pub filled_got : (k : ℕ) (r : Result ℕ Refusal) (next : ℕ) (g : Graph) → i < total → HeldAfter (read_list s after.acceptors low here) (hold k) r after g → r ≡ Ok next
      → (l : List ℕ) × ListGot s before.acceptors low here l next
  filled_got k r next g h p e =
      let (l, d, q) = after_got (hold k) after g (read_list s before.acceptors low here) r next (filled_now k r g p) e in
      (l, list_got s before.acceptors low here l next d)

  pub filled_more : (k : ℕ) (r : Result ℕ Refusal) (next : ℕ) (g : Graph) → i < total → k ≡ f (first + i) → HeldAfter (read_list s after.acceptors low here) (hold k) r after g → r ≡ Ok next
      → Filled s low total at first f before next (i + 1) g
  filled_more k r next g h w p e =
      let (l, d, q) = after_got (hold k) after g (read_list s before.acceptors low here) r next (filled_now k r g p) e in
      let w' : f (first + length F.read) ≡ k = ap (λ (j : ℕ). f (first + j)) F.many ∙ sym w in
      record {
        read = F.read ++ (l ∷ []);
        many = length-append F.read (l ∷ []) ∙ ap (λ (j : ℕ). j + 1) F.many;
        held = q ∙ ap (λ (x : Graph). with_lists x (hold k l (lists_in x))) F.held
            ∙ ap (with_lists before) (sym (hold_more f first F.read l (lists_in before) ∙ ap (λ (j : ℕ). hold j l (hold_all f first F.read (lists_in before))) w'));
        inside = (list_got s before.acceptors low here l next d).ends;
        rest = go_on (got l next) h d;
      }

  pub filled_all : total ≤ i → HeldAfter (read_lists s before.acceptors low total [] at) (hold_all f first) (Ok here) before after
  unfolding read_lists
  filled_all h =
      let e : total - i ≡ 0 = omega arith in
      promised_got (hold_all f first) before after (read_lists s before.acceptors low total [] at) F.read here
      (F.rest ∙ ap (λ (k : ℕ). read_lists s before.acceptors low k F.read here) e) F.held

pub filled_none : (s : List ℕ) (low total at first i : ℕ) (f : ℕ → ℕ) (before : Graph) → at ≤ length s → i ≡ 0 → Filled s low total at first f before at i before
unfolding hold_all
filled_none s low total at first i f before h z =
    let e : total ≡ total - i = omega arith in
    record { read = []; many = sym z; held = refl; inside = h; rest = ap (λ (k : ℕ). read_lists s before.acceptors low k [] at) e }

-- ---- lists that were read: how many there are, that each is small, and where they end
abbrev pub Small : List (List ℕ) → Type 0
Small ls = (l : List ℕ) → l ∈ ls → length l ≤ max_masks

pub small_more : (ls : List (List ℕ)) (x : List ℕ) → Small ls → length x ≤ max_masks → Small (ls ++ (x ∷ []))
small_more ls x h k l m = pass (Memᴰ.append_cases ls m)
  where
    pass : (l ∈ ls) ⊎ (l ∈ x ∷ []) → length l ≤ max_masks
    pass (inl i) = h l i
    pass (inr i) = subst (λ (y : List ℕ). length y ≤ max_masks) (sym (Memᴰ.eq_of_singleton i)) k

pub lists_got : (s : List ℕ) (n low k : ℕ) (e : List (List ℕ)) (at : ℕ) (ls : List (List ℕ)) (next : ℕ) → at ≤ length s → Small e → read_lists s n low k e at ≡ got ls next
    → (length ls ≡ length e + k) × (next ≤ length s) × Small ls
unfolding read_lists
lists_got s n low zero e at ls next h q f =
    let p : e ≡ ls = cc in
    let o : at ≡ next = cc in
    let r = ap length p in
    (omega arith, omega arith, subst Small p q)
lists_got s n low (suc k) e at ls next h q f =
    let (l, m, g, w) = then_got (read_list s n low at) _ ls next f in
    let t = list_got s n low at l m g in
    let (x, y, z) = lists_got s n low k (e ++ (l ∷ [])) m ls next t.ends (small_more e l q t.small) w in
    let v = length-append e (l ∷ []) in
    (omega arith, y, z)

-- ---- the same of rows
pub record RowsFilled (s : List ℕ) (at : ℕ) (before : Graph) (here a : ℕ) (after : Graph) : Type 0 where
  pub read : List (List (List ℕ))
  pub many : length read ≡ a
  pub held : after ≡ with_lists before (hold_rows 0 read (lists_in before))
  pub inside : here ≤ length s
  pub rest : read_rows s before.acceptors before.learners [] at ≡ read_rows s before.acceptors (before.learners - a) read here

module _ (s : List ℕ) (at : ℕ) (before : Graph) (here a : ℕ) (after : Graph) (F : RowsFilled s at before here a after) where
  pub rows_kept : (after.acceptors ≡ before.acceptors) × (after.learners ≡ before.learners)
  rows_kept = (ap (λ (g : Graph). g.acceptors) F.held, ap (λ (g : Graph). g.learners) F.held)

  abbrev row_read : ℕ → ℕ → Got (List (List ℕ))
  row_read n l = read_lists s n 0 (l - a) [] here

  rows_now : (r : Result ℕ Refusal) (g : Graph) → HeldAfter (row_read after.acceptors after.learners) (hold_all (pair_list a) a) r after g
      → HeldAfter (row_read before.acceptors before.learners) (hold_all (pair_list a) a) r after g
  rows_now r g h =
      subst (λ (x : ℕ). HeldAfter (row_read before.acceptors x) (hold_all (pair_list a) a) r after g) rows_kept.1
      (subst (λ (x : ℕ). HeldAfter (row_read x after.learners) (hold_all (pair_list a) a) r after g) rows_kept.0 h)

  next_row : (g : Got (List (List ℕ))) → a < before.learners → row_read before.acceptors before.learners ≡ g
      → read_rows s before.acceptors before.learners [] at ≡ and_then g (λ row at'. read_rows s before.acceptors (before.learners - (a + 1)) (F.read ++ (row ∷ [])) at')
  unfolding read_rows
  next_row g h e =
      let k : before.learners - a ≡ suc (before.learners - (a + 1)) = omega arith in
      F.rest ∙ ap (λ (k : ℕ). read_rows s before.acceptors k F.read here) k
      ∙ ap (λ (x : Got (List (List ℕ))). and_then x (λ row at'. read_rows s before.acceptors (before.learners - (a + 1)) (F.read ++ (row ∷ [])) at'))
      (ap (λ (k : ℕ). read_lists s before.acceptors 0 k [] here) (sym k) ∙ e)

  pub rows_no : (r q : Result ℕ Refusal) (x : Refusal) (g h : Graph) → a < before.learners → HeldAfter (row_read after.acceptors after.learners) (hold_all (pair_list a) a) r after g
      → r ≡ Err x → q ≡ Err x → HeldAfter (read_rows s before.acceptors before.learners [] at) (hold_rows 0) q before h
  rows_no r q x g h l p e d =
      promised_no (hold_rows 0) before h (read_rows s before.acceptors before.learners [] at) q x d
      (next_row (no x) l (after_no (hold_all (pair_list a) a) after g (row_read before.acceptors before.learners) r x (rows_now r g p) e))

  pub rows_filled : (r : Result ℕ Refusal) (next : ℕ) (g : Graph) → a < before.learners → HeldAfter (row_read after.acceptors after.learners) (hold_all (pair_list a) a) r after g
      → r ≡ Ok next → RowsFilled s at before next (a + 1) g
  rows_filled r next g h p e =
      let (row, d, q) = after_got (hold_all (pair_list a) a) after g (row_read before.acceptors before.learners) r next (rows_now r g p) e in
      let (x, y, z) = lists_got s before.acceptors 0 (before.learners - a) [] here row next F.inside (λ _ m. elim m [ ]) d in
      let w : 0 + length F.read ≡ a = omega (arith, F.many) in
      record {
        read = F.read ++ (row ∷ []);
        many = length-append F.read (row ∷ []) ∙ ap (λ (j : ℕ). j + 1) F.many;
        held = q ∙ ap (λ (x : Graph). with_lists x (hold_all (pair_list a) a row (lists_in x))) F.held
            ∙ ap (with_lists before) (sym (rows_more 0 F.read row (lists_in before) ∙ ap (λ (j : ℕ). hold_all (pair_list j) j row (hold_rows 0 F.read (lists_in before))) w));
        inside = y;
        rest = next_row (got row next) h d;
      }

  pub rows_all : before.learners ≤ a → HeldAfter (read_rows s before.acceptors before.learners [] at) (hold_rows 0) (Ok here) before after
  unfolding read_rows
  rows_all h =
      let e : before.learners - a ≡ 0 = omega arith in
      promised_got (hold_rows 0) before after (read_rows s before.acceptors before.learners [] at) F.read here
      (F.rest ∙ ap (λ (k : ℕ). read_rows s before.acceptors k F.read here) e) F.held

pub rows_none : (s : List ℕ) (at : ℕ) (before : Graph) → at ≤ length s → RowsFilled s at before at 0 before
unfolding hold_rows
rows_none s at before h =
    let e : before.learners ≡ before.learners - 0 = omega arith in
    record { read = []; many = refl; held = refl; inside = h; rest = ap (λ (k : ℕ). read_rows s before.acceptors k [] at) e }

-- rows that were read: k lists in the first one, and one less in each row behind it
abbrev pub Rows : ℕ → List (List (List ℕ)) → Type 0
Rows zero rs = rs ≡ []
Rows (suc k) [] = ⊥
Rows (suc k) (r ∷ rs) = (length r ≡ suc k) × Small r × Rows k rs

pub rows_got : (s : List ℕ) (n k : ℕ) (e : List (List (List ℕ))) (at : ℕ) (rows : List (List (List ℕ))) (next : ℕ) → at ≤ length s → read_rows s n k e at ≡ got rows next
    → (rs : List (List (List ℕ))) × (rows ≡ e ++ rs) × Rows k rs × (next ≤ length s)
unfolding read_rows
rows_got s n zero e at rows next h f =
    let p : e ≡ rows = cc in
    let o : at ≡ next = cc in
    ([], sym p ∙ sym (append-nil e), refl, omega arith)
rows_got s n (suc k) e at rows next h f =
    let (r, m, g, w) = then_got (read_lists s n 0 (suc k) [] at) _ rows next f in
    let (x, y, z) = lists_got s n 0 (suc k) [] at r m h (λ _ i. elim i [ ]) g in
    let (rs, p, t, q) = rows_got s n k (e ++ (r ∷ [])) m rows next y w in
    (r ∷ rs, p ∙ append_assoc e (r ∷ []) rs, (omega arith, z, t), q)

-- what is said of the lists of a file
pub record GraphGot (n l : ℕ) (f : Contents) : Type 0 where
  pub acceptors : f.acceptors ≡ n
  pub learners : f.learners ≡ l
  pub many : length f.quorums ≡ l
  pub small : Small f.quorums
  pub rows : Rows l f.rows

pub graph_got : (s : List ℕ) (n l at : ℕ) (f : Contents) (end : ℕ) → at ≤ length s → read_graph s n l at ≡ got f end → GraphGot n l f
unfolding read_graph
graph_got s n l at f end h e =
    let (qs, m, g, w) = then_got (read_lists s n 1 l [] at) _ f end e in
    let (x, y, z) = lists_got s n 1 l [] at qs m h (λ _ i. elim i [ ]) g in
    let (rows, m', g', w') = then_got (read_rows s n l [] m) _ f end w in
    let (rs, p, t, q) = rows_got s n l [] m rows m' y g' in
    whole (eqb m' (length s)) qs rows m' (omega arith) z (subst (Rows l) (sym p) t) w'
  where
    whole : (b : Bool) (qs : List (List ℕ)) (rows : List (List (List ℕ))) (m' : ℕ) → length qs ≡ l → Small qs → Rows l rows
        → pick b (got (record { acceptors = n; learners = l; quorums = qs; rows = rows }) m') (no Length) ≡ got f end → GraphGot n l f
    whole true qs rows m' x z t w =
        let c : record { acceptors = n; learners = l; quorums = qs; rows = rows } ≡ f = cc in
        subst (GraphGot n l) c (record { acceptors = refl; learners = refl; many = x; small = z; rows = t })
    whole false qs rows m' x z t w = let z : ◌≡◌ {A = ℕ} 0 1 = cc in absurd (omega arith)
