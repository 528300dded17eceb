-- The graph that is held after a file's lists are put in is the graph of the file.
use mathlib.Core.Path.{◌≡◌, refl, ap, sym, ◌∙◌, subst}
use mathlib.Core.Logic.{◌⊎◌, inl, inr, ◌≢◌, ⊎_elim}
use mathlib.Core.List.Memᴰ
use mathlib.Core.List.{List, [], ◌∷◌, ◌++◌}
use Prim.Native.Nat.{ℕ, zero, suc, ◌+◌, ◌-◌, ◌*◌, ◌≤◌, ◌<◌, min, max}
use native.Mathlib.Decide.{dec_lt, ℕ_discrete}
use native.Mathlib.Nat.{add-zero}
use native.Mathlib.Omega.{arith}
use lib.ListN.{length, get_or, set, take, drop, length-set, length-append, get_or-append}
use lib.Seq.{slice, sets-eq, length-sets, length-slice, length-take-le, get_or-set_same, get_or-set_other, get_or-take, get_or-drop, get_or-append-add, ext_get_or}
use Rattle.base.specs.Bytes.{put_at}
use Rattle.graph.specs.Limits.{max_masks, max_learners, lists}
use Rattle.graph.specs.Memory.{held_graph, triangle, pair_list, list_of, GraphSized}
use Rattle.graphfile.specs.Arrays.{ListArrays, hold, hold_all, hold_rows, nothing, held_of}
use Rattle.graphfile.proofs.Reader.{Small, Rows, GraphGot, part_put}
use Rattle.graphfile.specs.File.{Contents, graph_said}
use Rattle.graph.specs.Theorems.{SameGraph}

-- ---- writing into a list
pub length_put : (m l : List ℕ) (at : ℕ) → at + length l ≤ length m → length (put_at m at l) ≡ length m
length_put m l at h = ap length (sym (sets-eq l m at h)) ∙ length-sets m at l

pub get_put_other : (m l : List ℕ) (at p : ℕ) → at + length l ≤ length m → (p < at) ⊎ (at + length l ≤ p) → get_or (put_at m at l) p 0 ≡ get_or m p 0
get_put_other m l at p h c = ⊎_elim low high c
  where
    t : length (take at m) ≡ at
    t = length-take-le at m (omega arith)

    u : length (take at m ++ l) ≡ at + length l
    u = length-append (take at m) l ∙ ap (λ (k : ℕ). k + length l) t

    low : p < at → get_or (put_at m at l) p 0 ≡ get_or m p 0
    low k =
        let tt' = t in
        let uu = u in
        get_or-append (take at m ++ l) (drop (at + length l) m) 0 p (omega arith) ∙ get_or-append (take at m) l 0 p (omega arith) ∙ get_or-take at m p 0 k

    high : at + length l ≤ p → get_or (put_at m at l) p 0 ≡ get_or m p 0
    high k =
        let uu = u in
        let e : p ≡ length (take at m ++ l) + (p - (at + length l)) = omega arith in
        let f : at + length l + (p - (at + length l)) ≡ p = omega arith in
        ap (λ (j : ℕ). get_or (put_at m at l) j 0) e ∙ get_or-append-add (take at m ++ l) (drop (at + length l) m) (p - (at + length l)) 0
        ∙ get_or-drop (at + length l) m (p - (at + length l)) 0 ∙ ap (λ (j : ℕ). get_or m j 0) f

pub slice_put_other : (m l : List ℕ) (at f t : ℕ) → at + length l ≤ length m → t ≤ length m → (t ≤ at) ⊎ (at + length l ≤ f) → slice f t (put_at m at l) ≡ slice f t m
slice_put_other m l at f t h k c =
    ext_get_or 0 (slice f t (put_at m at l)) (slice f t m) (n ∙ sym (length-slice f t m k)) (λ i j. here i (let nn = n in omega arith))
  where
    lp : length (put_at m at l) ≡ length m
    lp = length_put m l at h

    n : length (slice f t (put_at m at l)) ≡ t - f
    n = length-slice f t (put_at m at l) (let e = lp in omega arith)

    here : (i : ℕ) → i < t - f → get_or (slice f t (put_at m at l)) i 0 ≡ get_or (slice f t m) i 0
    here i j =
        get_or-drop f (take t (put_at m at l)) i 0 ∙ get_or-take t (put_at m at l) (f + i) 0 (omega arith)
        ∙ get_put_other m l at (f + i) h (⊎_elim (λ w. inl (omega arith)) (λ w. inr (omega arith)) c)
        ∙ sym (get_or-drop f (take t m) i 0 ∙ get_or-take t m (f + i) 0 (omega arith))

-- ---- one list put in
abbrev pub held_list : ListArrays → ℕ → List ℕ
held_list h k = list_of h.counts h.masks k

abbrev pub Fits : ListArrays → Type 0
Fits h = GraphSized h.counts h.masks

module _ (k : ℕ) (l : List ℕ) (h : ListArrays) (z : Fits h) (lk : k < lists) (s : length l ≤ max_masks) where
  pub hold_fits : Fits (hold k l h)
  hold_fits = (length-set h.counts k (length l) ∙ z.0, length_put h.masks l (max_masks * k) (omega arith) ∙ z.1)

  pub hold_same : held_list (hold k l h) k ≡ l
  unfolding list_of
  hold_same =
      let c : get_or (set h.counts k (length l)) k 0 ≡ length l = get_or-set_same h.counts k (length l) 0 (omega arith) in
      let m : min (get_or (set h.counts k (length l)) k 0) max_masks ≡ length l = omega arith in
      ap (λ (j : ℕ). slice (max_masks * k) (max_masks * k + j) (put_at h.masks (max_masks * k) l)) m
      ∙ part_put h.masks l (put_at h.masks (max_masks * k) l) (max_masks * k) (length l) refl refl (omega arith)

  pub hold_other : (j : ℕ) → j < lists → j ≢ k → held_list (hold k l h) j ≡ held_list h j
  unfolding list_of
  hold_other j lj d =
      let c : get_or (set h.counts k (length l)) j 0 ≡ get_or h.counts j 0 = get_or-set_other h.counts k j (length l) 0 d in
      ap (λ (x : ℕ). slice (max_masks * j) (max_masks * j + min x max_masks) (put_at h.masks (max_masks * k) l)) c
      ∙ slice_put_other h.masks l (max_masks * k) (max_masks * j) (max_masks * j + min (get_or h.counts j 0) max_masks) (omega arith) (omega arith) (apart (dec_lt j k))
    where
      apart : Dec (j < k) → (max_masks * j + min (get_or h.counts j 0) max_masks ≤ max_masks * k) ⊎ (max_masks * k + length l ≤ max_masks * j)
      apart (yes w) = inl (omega arith)
      apart (no w) = inr (let w' : k < j = omega arith in omega arith)

-- ---- lists put in one behind the other
module _ (f : ℕ → ℕ) (inj : (i j : ℕ) → f i ≡ f j → i ≡ j) where
  abbrev pub Room : ℕ → ℕ → Type 0
  Room i n = (j : ℕ) → i ≤ j → j < i + n → f j < lists

  pub all_fits : (i : ℕ) (ls : List (List ℕ)) (h : ListArrays) → Fits h → Small ls → Room i (length ls) → Fits (hold_all f i ls h)
  unfolding hold_all
  all_fits i [] h z s r = z
  all_fits i (l ∷ ls) h z s r =
      all_fits (suc i) ls (hold (f i) l h) (hold_fits (f i) l h z (r i (omega arith) (omega arith)) (s l (Memᴰ.head refl))) (λ x m. s x (Memᴰ.tail m)) (λ j a b. r j (omega arith) (omega arith))

  pub all_other : (i : ℕ) (ls : List (List ℕ)) (h : ListArrays) → Fits h → Small ls → Room i (length ls) → (k : ℕ) → k < lists → ((j : ℕ) → i ≤ j → j < i + length ls → k ≢ f j)
      → held_list (hold_all f i ls h) k ≡ held_list h k
  unfolding hold_all
  all_other i [] h z s r k lk d = refl
  all_other i (l ∷ ls) h z s r k lk d =
      let ri = r i (omega arith) (omega arith) in
      let sl = s l (Memᴰ.head refl) in
      all_other (suc i) ls (hold (f i) l h) (hold_fits (f i) l h z ri sl) (λ x m. s x (Memᴰ.tail m)) (λ j a b. r j (omega arith) (omega arith)) k lk (λ j a b. d j (omega arith) (omega arith))
      ∙ hold_other (f i) l h z ri sl k lk (d i (omega arith) (omega arith))

  pub all_same : (i : ℕ) (ls : List (List ℕ)) (h : ListArrays) → Fits h → Small ls → Room i (length ls) → (x : ℕ) → x < length ls → held_list (hold_all f i ls h) (f (i + x)) ≡ get_or ls x []
  unfolding hold_all
  all_same i [] h z s r x lx = absurd (omega arith)
  all_same i (l ∷ ls) h z s r zero lx =
      let ri = r i (omega arith) (omega arith) in
      let sl = s l (Memᴰ.head refl) in
      ap (λ (j : ℕ). held_list (hold_all f (suc i) ls (hold (f i) l h)) (f j)) (add-zero i)
      ∙ all_other (suc i) ls (hold (f i) l h) (hold_fits (f i) l h z ri sl) (λ y m. s y (Memᴰ.tail m)) (λ j a b. r j (omega arith) (omega arith)) (f i) ri (λ j a b e. let q = inj i j e in omega arith)
      ∙ hold_same (f i) l h z ri sl
  all_same i (l ∷ ls) h z s r (suc x) lx =
      let ri = r i (omega arith) (omega arith) in
      let sl = s l (Memᴰ.head refl) in
      let e : i + suc x ≡ suc i + x = omega arith in
      ap (λ (j : ℕ). held_list (hold_all f (suc i) ls (hold (f i) l h)) (f j)) e
      ∙ all_same (suc i) ls (hold (f i) l h) (hold_fits (f i) l h z ri sl) (λ y m. s y (Memᴰ.tail m)) (λ j a b. r j (omega arith) (omega arith)) x (omega arith)

-- ---- the lists of pairs are apart
pub triangle_up : (b d : ℕ) → b < d → triangle b + b < triangle d
unfolding triangle
triangle_up b zero h = absurd (omega arith)
triangle_up b (suc d) h = step (λ (k : b < d). triangle_up b d k) (ℕ_discrete b d)
  where
    step : (b < d → triangle b + b < triangle d) → Dec (b ≡ d) → triangle b + b < triangle d + suc d
    step up (yes e) = let p = ap triangle e in omega arith
    step up (no e) = let p = up (omega arith) in omega arith

pub pair_inj : (a b c d : ℕ) → pair_list a b ≡ pair_list c d → (min a b ≡ min c d) × (max a b ≡ max c d)
unfolding pair_list
pair_inj a b c d e = step (dec_lt (max a b) (max c d)) (dec_lt (max c d) (max a b))
  where
    step : Dec (max a b < max c d) → Dec (max c d < max a b) → (min a b ≡ min c d) × (max a b ≡ max c d)
    step (yes p) q = let t = triangle_up (max a b) (max c d) p in let m : min a b ≤ max a b = omega arith in absurd (omega arith)
    step (no p) (yes q) = let t = triangle_up (max c d) (max a b) q in let m : min c d ≤ max c d = omega arith in absurd (omega arith)
    step (no p) (no q) = let m : max a b ≡ max c d = omega arith in let t = ap triangle m in (omega arith, m)

pub pair_inj_right : (a i j : ℕ) → pair_list a i ≡ pair_list a j → i ≡ j
pair_inj_right a i j e = let (m, n) = pair_inj a i a j e in omega arith

pub pair_room : (a b : ℕ) → a < 8 → b < 8 → pair_list a b < lists
unfolding pair_list triangle
pair_room a b p q = let t : triangle (max a b) + max a b < 36 = triangle_up (max a b) 8 (omega arith) in let m : min a b ≤ max a b = omega arith in omega arith

pub pair_behind : (a b : ℕ) → max_learners ≤ pair_list a b
unfolding pair_list
pair_behind a b = omega arith

-- the pair in its order
pub pair_ordered : (a b : ℕ) → pair_list a b ≡ pair_list (0 + min a b) (0 + min a b + (max a b - min a b))
unfolding pair_list
pair_ordered a b = λ i. max_learners + (triangle (high (min a b) (max a b) (omega arith) i) + low (min a b) (max a b) (omega arith) i)
  where
    high : (x y : ℕ) → x ≤ y → y ≡ max (0 + x) (0 + x + (y - x))
    high x y h = omega arith

    low : (x y : ℕ) → x ≤ y → x ≡ min (0 + x) (0 + x + (y - x))
    low x y h = omega arith

-- ---- rows put in one behind the other, the first being that of learner a
pub rows_fits : (a k : ℕ) (rs : List (List (List ℕ))) (h : ListArrays) → a + k ≤ max_learners → Rows k rs → Fits h → Fits (hold_rows a rs h)
unfolding hold_rows
rows_fits a zero rs h r t z = subst (λ (x : List (List (List ℕ))). Fits (hold_rows a x h)) (sym t) z
rows_fits a (suc k) [] h r t z = absurd t
rows_fits a (suc k) (x ∷ rs) h r t z =
    rows_fits (suc a) k rs (hold_all (pair_list a) a x h) (omega arith) t.2
    (all_fits (pair_list a) (pair_inj_right a) a x h z t.1 (λ j p q. let n = t.0 in pair_room a j (omega arith) (omega arith)))

pub rows_other : (a k : ℕ) (rs : List (List (List ℕ))) (h : ListArrays) → a + k ≤ max_learners → Rows k rs → Fits h → (m : ℕ) → m < lists
    → ((x y : ℕ) → a ≤ x → x ≤ y → m ≢ pair_list x y) → held_list (hold_rows a rs h) m ≡ held_list h m
unfolding hold_rows
rows_other a zero rs h r t z m lm d = ap (λ (x : List (List (List ℕ))). held_list (hold_rows a x h) m) t
rows_other a (suc k) [] h r t z m lm d = absurd t
rows_other a (suc k) (x ∷ rs) h r t z m lm d =
    let room : Room (pair_list a) (pair_inj_right a) a (length x) = λ j p q. let n = t.0 in pair_room a j (omega arith) (omega arith) in
    rows_other (suc a) k rs (hold_all (pair_list a) a x h) (omega arith) t.2 (all_fits (pair_list a) (pair_inj_right a) a x h z t.1 room) m lm (λ i j p q. d i j (omega arith) q)
    ∙ all_other (pair_list a) (pair_inj_right a) a x h z t.1 room m lm (λ j p q. d a j (omega arith) p)

pub rows_same : (a k : ℕ) (rs : List (List (List ℕ))) (h : ListArrays) → a + k ≤ max_learners → Rows k rs → Fits h → (x y : ℕ) → x + y < k
    → held_list (hold_rows a rs h) (pair_list (a + x) (a + x + y)) ≡ get_or (get_or rs x []) y []
unfolding hold_rows
rows_same a zero rs h r t z x y l = absurd (omega arith)
rows_same a (suc k) [] h r t z x y l = absurd t
rows_same a (suc k) (w ∷ rs) h r t z zero y l =
    let room : Room (pair_list a) (pair_inj_right a) a (length w) = λ j p q. let n = t.0 in pair_room a j (omega arith) (omega arith) in
    let n = t.0 in
    let e : a + 0 ≡ a = add-zero a in
    (λ i. held_list (hold_rows (suc a) rs (hold_all (pair_list a) a w h)) (pair_list (e i) (e i + y)))
    ∙ rows_other (suc a) k rs (hold_all (pair_list a) a w h) (omega arith) t.2 (all_fits (pair_list a) (pair_inj_right a) a w h z t.1 room) (pair_list a (a + y)) (pair_room a (a + y) (omega arith) (omega arith))
    (λ i j p q e. let (m, o) = pair_inj a (a + y) i j e in omega arith)
    ∙ all_same (pair_list a) (pair_inj_right a) a w h z t.1 room y (omega arith)
rows_same a (suc k) (w ∷ rs) h r t z (suc x) y l =
    let room : Room (pair_list a) (pair_inj_right a) a (length w) = λ j p q. let n = t.0 in pair_room a j (omega arith) (omega arith) in
    let e : a + suc x ≡ suc a + x = omega arith in
    (λ i. held_list (hold_rows (suc a) rs (hold_all (pair_list a) a w h)) (pair_list (e i) (e i + y)))
    ∙ rows_same (suc a) k rs (hold_all (pair_list a) a w h) (omega arith) t.2 (all_fits (pair_list a) (pair_inj_right a) a w h z t.1 room) x y (omega arith)

-- ---- the graph of the file is held
nothing_fits : Fits nothing
nothing_fits = (refl, refl)

pub held_same : (n l : ℕ) (f : Contents) → l ≤ max_learners → GraphGot n l f → SameGraph (held_graph n l (held_of f).counts (held_of f).masks) (graph_said f)
unfolding held_of graph_said
held_same n l f h g = record { acceptors = sym g.acceptors; learners = sym g.learners; quorums = quorums; safes = safes }
  where
    Q : ListArrays
    Q = hold_all (λ a. a) 0 f.quorums nothing

    room : Room (λ a. a) (λ i j e. e) 0 (length f.quorums)
    room j p q = let m = g.many in omega arith

    Q_fits : Fits Q
    Q_fits = all_fits (λ a. a) (λ i j e. e) 0 f.quorums nothing nothing_fits g.small room

    quorums : (a : ℕ) → a < l → held_list (hold_rows 0 f.rows Q) a ≡ get_or f.quorums a []
    quorums a la =
        let m = g.many in
        let e : 0 + a ≡ a = omega arith in
        rows_other 0 l f.rows Q (omega arith) g.rows Q_fits a (omega arith) (λ x y p q e. let b = pair_behind x y in omega arith)
        ∙ ap (held_list Q) (sym e) ∙ all_same (λ a. a) (λ i j e. e) 0 f.quorums nothing nothing_fits g.small room a (omega arith)

    inside : (a b : ℕ) → a < l → b < l → min a b + (max a b - min a b) < l
    inside a b p q = let o : min a b ≤ max a b = omega arith in let r : max a b < l = omega arith in omega arith

    safes : (a b : ℕ) → a < l → b < l → held_list (hold_rows 0 f.rows Q) (pair_list a b) ≡ get_or (get_or f.rows (min a b) []) (max a b - min a b) []
    safes a b la lb =
        ap (held_list (hold_rows 0 f.rows Q)) (pair_ordered a b)
        ∙ rows_same 0 l f.rows Q (omega arith) g.rows Q_fits (min a b) (max a b - min a b) (inside a b la lb)
