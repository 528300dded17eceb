-- Laws of the writer of graph files.
use mathlib.Core.Path.{◌≡◌, refl, ap, ap₂, sym, ◌∙◌, subst}
use mathlib.Core.Bool.{Bool, true, false, ◌&&◌}
use mathlib.Core.List.{List, [], ◌∷◌, ◌++◌, append-nil, append_assoc}
use Prim.Native.Nat.{ℕ, zero, suc, ◌+◌, ◌-◌, ◌*◌, ◌^◌, ◌≤◌, ◌<◌, min}
use native.Mathlib.Numerals.{add-one}
use native.Mathlib.Nat.{add-zero}
use native.Mathlib.Omega.{arith}
use borrow.Author.Tests.{ltb-true, leb-true}
use lib.Dec.{leb}
use lib.ListN.{length, get_or, take, drop, length-append, length-drop, length-take, drop_of_length-le}
use lib.Seq.{slice, length-slice, get_or-drop, drop-cons, drop_at, length-take-le}
use Rattle.base.specs.Tests.{all}
use Rattle.base.specs.Bytes.{bytes, put_at}
use Rattle.base.proofs.Bytes.{bytes_length, put_at_none, put_at_more}
use Rattle.graph.specs.declared.Graph.{Graph}
use Rattle.graph.specs.Limits.{version, max_learners, max_masks, mask_bytes, lists}
use Rattle.graph.specs.Memory.{held_graph, list_of, pair_list, triangle, GraphSized}
use Rattle.graph.proofs.Memory.{list_is}
use Rattle.graphfile.specs.File.{outer_len, version_at, acceptors_at, learners_at, lists_at, Contents}
use Rattle.graphfile.specs.Writer.{masks_bytes, list_bytes, lists_bytes, rows_bytes, body_bytes, file_bytes, listed, rows_from, contents_of, few_masks, fits_mask, sayable}
use Rattle.graphfile.specs.Inside.Steps.{MasksFit, Room, PutIn}
use Rattle.graphfile.proofs.View.{triangle_up}

-- ---- a test over what is left of a list
module _ (f : ℕ → Bool) (l : List ℕ) where
  pub all_next : (i : ℕ) → i < length l → all f (drop i l) ≡ (f (get_or l i 0) && all f (drop (i + 1) l))
  unfolding all
  all_next i h = ap (all f) (drop-cons l i 0 h) ∙ ap (λ (k : ℕ). f (get_or l i 0) && all f (drop k l)) (sym (add-one i))

  pub all_end : (i : ℕ) → length l ≤ i → all f (drop i l) ≡ true
  unfolding all
  all_end i h = ap (all f) (drop_of_length-le l {i = i} h)

pub masks_fit : (l : List ℕ) → all fits_mask l ≡ true → MasksFit l
unfolding all
masks_fit [] e i = none i
  where
    none : (i : ℕ) → get_or [] i 0 < 256 ^ mask_bytes
    none zero = omega arith
    none (suc i) = omega arith
masks_fit (x ∷ l) e i = by (fits_mask x) refl e (λ (e : all fits_mask l ≡ true). masks_fit l e) i
  where
    by : (b : Bool) → fits_mask x ≡ b → (b && all fits_mask l) ≡ true → (all fits_mask l ≡ true → MasksFit l) → MasksFit (x ∷ l)
    by true p e h zero = ltb-true x (256 ^ mask_bytes) p
    by true p e h (suc i) = h e i
    by false p e h i = let z : ◌≡◌ {A = ℕ} 0 1 = cc in absurd (omega arith)

-- what holds of a graph that a file can say
pub record Sayable (g : Graph) : Type 0 where
  pub few : g.learners ≤ max_learners
  pub fit : MasksFit g.masks

pub said : (g : Graph) → sayable g ≡ true → Sayable g
unfolding sayable
said g e = by (leb g.learners max_learners) (all few_masks g.counts) (all fits_mask g.masks) refl refl e
  where
    by : (l c m : Bool) → leb g.learners max_learners ≡ l → all fits_mask g.masks ≡ m → (l && c && m) ≡ true → Sayable g
    by true true true p q e = record { few = leb-true g.learners max_learners p; fit = masks_fit g.masks q }
    by true true false p q e = let z : ◌≡◌ {A = ℕ} 0 1 = cc in absurd (omega arith)
    by true false m p q e = let z : ◌≡◌ {A = ℕ} 0 1 = cc in absurd (omega arith)
    by false c m p q e = let z : ◌≡◌ {A = ℕ} 0 1 = cc in absurd (omega arith)

-- ---- a part written piece by piece: what is put in, and what is still to be put in behind it
pub record Putting (whole rest : List ℕ) (at here : ℕ) (before after : List ℕ) : Type 0 where
  pub done : List ℕ
  pub split : whole ≡ done ++ rest
  pub place : here ≡ at + length done
  pub held : after ≡ put_at before at done

pub putting_none : (w : List ℕ) (at : ℕ) (b : List ℕ) → Putting w w at at b b
putting_none w at b = record { done = []; split = refl; place = sym (add-zero at); held = put_at_none b at }

module _ (w r : List ℕ) (at here : ℕ) (b x : List ℕ) (P : Putting w r at here b x) where
  -- there is room for what is still to be put in
  pub putting_room : at + length w ≤ length b → here + length r ≤ length b
  putting_room h =
      let e = ap length P.split ∙ length-append P.done r in
      let p = P.place in
      omega arith

  -- and for the next piece of it
  pub putting_piece : (v t : List ℕ) → at + length w ≤ length b → r ≡ v ++ t → here + length v ≤ length b
  putting_piece v t h e = let n = putting_room h in let l = ap length e ∙ length-append v t in omega arith

  pub putting_more : (v t y : List ℕ) (k : ℕ) → at + length w ≤ length b → r ≡ v ++ t → PutIn v here k x y → Putting w t at k b y
  putting_more v t y k h e q =
      let p = P.place in
      let z = q.behind in
      let n = length-append P.done v in
      record {
        done = P.done ++ v;
        split = P.split ∙ ap (λ (z : List ℕ). P.done ++ z) e ∙ sym (append_assoc P.done v t);
        place = omega arith;
        held = put_at_more b x y P.done v at here (omega arith) (sym P.place) P.held q.held;
      }

  pub putting_all : r ≡ [] → PutIn w at here b x
  putting_all e =
      let s : w ≡ P.done = P.split ∙ ap (λ (z : List ℕ). P.done ++ z) e ∙ append-nil P.done in
      record { behind = P.place ∙ ap (λ (z : List ℕ). at + length z) (sym s); held = P.held ∙ ap (put_at b at) (sym s) }

-- ---- the next piece
pub masks_next : (list : List ℕ) (i : ℕ) → i < length list → masks_bytes (drop i list) ≡ bytes mask_bytes (get_or list i 0) ++ masks_bytes (drop (i + 1) list)
unfolding masks_bytes
masks_next list i h = ap masks_bytes (drop-cons list i 0 h) ∙ ap (λ (j : ℕ). bytes mask_bytes (get_or list i 0) ++ masks_bytes (drop j list)) (sym (add-one i))

pub masks_none : (list : List ℕ) (i : ℕ) → length list ≤ i → masks_bytes (drop i list) ≡ []
unfolding masks_bytes
masks_none list i h = ap masks_bytes (drop_of_length-le list {i = i} h)

next_left : (a l : ℕ) → a < l → l - a ≡ suc (l - (a + 1))
next_left a l h = omega arith

none_left : (a l : ℕ) → l ≤ a → l - a ≡ 0
none_left a l h = omega arith

module _ (f : ℕ → List ℕ) (a l : ℕ) where
  pub lists_next : a < l → lists_bytes (listed f a (l - a)) ≡ list_bytes (f a) ++ lists_bytes (listed f (a + 1) (l - (a + 1)))
  unfolding lists_bytes listed
  lists_next h =
      ap (λ (k : ℕ). lists_bytes (listed f a k)) (next_left a l h) ∙ ap (λ (k : ℕ). list_bytes (f a) ++ lists_bytes (listed f k (l - (a + 1)))) (sym (add-one a))

  pub lists_none : l ≤ a → lists_bytes (listed f a (l - a)) ≡ []
  unfolding lists_bytes listed
  lists_none h = ap (λ (k : ℕ). lists_bytes (listed f a k)) (none_left a l h)

module _ (f : ℕ → ℕ → List ℕ) (a l : ℕ) where
  pub rows_next : a < l → rows_bytes (rows_from f a (l - a)) ≡ lists_bytes (listed (f a) a (l - a)) ++ rows_bytes (rows_from f (a + 1) (l - (a + 1)))
  unfolding rows_bytes rows_from
  rows_next h =
      ap (λ (k : ℕ). rows_bytes (rows_from f a k)) (next_left a l h)
      ∙ ap₂ (λ (j k : ℕ). lists_bytes (listed (f a) a j) ++ rows_bytes (rows_from f k (l - (a + 1)))) (sym (next_left a l h)) (sym (add-one a))

  pub rows_none : l ≤ a → rows_bytes (rows_from f a (l - a)) ≡ []
  unfolding rows_bytes rows_from
  rows_none h = ap (λ (k : ℕ). rows_bytes (rows_from f a k)) (none_left a l h)

-- ---- how long they are
pub masks_length : (l : List ℕ) → length (masks_bytes l) ≡ mask_bytes * length l
unfolding masks_bytes
masks_length [] = refl
masks_length (m ∷ l) = length-append (bytes mask_bytes m) (masks_bytes l) ∙ omega (arith, bytes_length mask_bytes m, masks_length l)

pub list_most_lem : (counts masks : List ℕ) (k : ℕ) → length (list_of counts masks k) ≤ max_masks
unfolding list_of
list_most_lem counts masks k =
    let to = max_masks * k + min (get_or counts k 0) max_masks in
    let d = length-drop (max_masks * k) (take to masks) in
    let t = length-take to masks in
    omega arith

-- a count and at most eight masks
abbrev pub list_most : ℕ
list_most = 1 + mask_bytes * max_masks

pub lists_most : (f : ℕ → List ℕ) → ((a : ℕ) → length (f a) ≤ max_masks) → (a k : ℕ) → length (lists_bytes (listed f a k)) ≤ list_most * k
unfolding lists_bytes listed
lists_most f h a zero = omega arith
lists_most f h a (suc k) =
    let n = length-append (list_bytes (f a)) (lists_bytes (listed f (suc a) k)) in
    let m = masks_length (f a) in
    let s = h a in
    let r = lists_most f h (suc a) k in
    omega arith

pub rows_most : (f : ℕ → ℕ → List ℕ) → ((a b : ℕ) → length (f a b) ≤ max_masks) → (a k : ℕ) → length (rows_bytes (rows_from f a k)) ≤ list_most * triangle k
unfolding rows_bytes rows_from triangle
rows_most f h a zero = omega arith
rows_most f h a (suc k) =
    let n = length-append (lists_bytes (listed (f a) a (suc k))) (rows_bytes (rows_from f (suc a) k)) in
    let s = lists_most (f a) (h a) a (suc k) in
    let r = rows_most f h (suc a) k in
    omega arith

-- ---- lists put in one behind the other: those before f a are put in
module _ (f : ℕ → List ℕ) (l : ℕ) (w : List ℕ) (at : ℕ) (b : List ℕ) where
  abbrev pub ListsPut : ℕ → ℕ → List ℕ → Type 0
  ListsPut a here x = Putting w (lists_bytes (listed f a (l - a))) at here b x

  module _ (a here : ℕ) (x : List ℕ) (P : ListsPut a here x) where
    pub list_room : a < l → at + length w ≤ length b → here + length (list_bytes (f a)) ≤ length b
    list_room h m = putting_piece w (lists_bytes (listed f a (l - a))) at here b x P (list_bytes (f a)) (lists_bytes (listed f (a + 1) (l - (a + 1)))) m (lists_next f a l h)

    pub list_more : (k : ℕ) (y : List ℕ) → a < l → at + length w ≤ length b → PutIn (list_bytes (f a)) here k x y → ListsPut (a + 1) k y
    list_more k y h m q =
        putting_more w (lists_bytes (listed f a (l - a))) at here b x P (list_bytes (f a)) (lists_bytes (listed f (a + 1) (l - (a + 1)))) y k m (lists_next f a l h) q

    pub lists_all : l ≤ a → PutIn w at here b x
    lists_all h = putting_all w (lists_bytes (listed f a (l - a))) at here b x P (lists_none f a l h)

-- the same of rows
module _ (f : ℕ → ℕ → List ℕ) (l : ℕ) (w : List ℕ) (at : ℕ) (b : List ℕ) where
  abbrev pub RowsPut : ℕ → ℕ → List ℕ → Type 0
  RowsPut a here x = Putting w (rows_bytes (rows_from f a (l - a))) at here b x

  module _ (a here : ℕ) (x : List ℕ) (P : RowsPut a here x) where
    pub row_room : a < l → at + length w ≤ length b → here + length (lists_bytes (listed (f a) a (l - a))) ≤ length b
    row_room h m =
        putting_piece w (rows_bytes (rows_from f a (l - a))) at here b x P (lists_bytes (listed (f a) a (l - a))) (rows_bytes (rows_from f (a + 1) (l - (a + 1)))) m (rows_next f a l h)

    pub row_more : (k : ℕ) (y : List ℕ) → a < l → at + length w ≤ length b → PutIn (lists_bytes (listed (f a) a (l - a))) here k x y → RowsPut (a + 1) k y
    row_more k y h m q =
        putting_more w (rows_bytes (rows_from f a (l - a))) at here b x P (lists_bytes (listed (f a) a (l - a))) (rows_bytes (rows_from f (a + 1) (l - (a + 1)))) y k m (rows_next f a l h) q

    pub rows_all : l ≤ a → PutIn w at here b x
    rows_all h = putting_all w (rows_bytes (rows_from f a (l - a))) at here b x P (rows_none f a l h)

-- ---- one list: its count, and its masks behind it
abbrev pub MasksPut : (list : List ℕ) (at : ℕ) (b : List ℕ) (i here : ℕ) (x : List ℕ) → Type 0
MasksPut list at b i here x = Putting (list_bytes list) (masks_bytes (drop i list)) at here b x

module _ (list : List ℕ) (at : ℕ) (b : List ℕ) where
  pub count_put : (x : List ℕ) → at + length (list_bytes list) ≤ length b → x ≡ put_at b at (length list ∷ []) → MasksPut list at b 0 (at + 1) x
  count_put x h p =
      let w = list_bytes list in
      putting_more w w at at b b (putting_none w at b) (length list ∷ []) (masks_bytes list) x (at + 1) h refl (record { behind = refl; held = p })

  module _ (i here : ℕ) (x : List ℕ) (P : MasksPut list at b i here x) (l : i < length list) (h : at + length (list_bytes list) ≤ length b) where
    pub mask_room : here + mask_bytes ≤ length b
    mask_room =
        let n = bytes_length mask_bytes (get_or list i 0) in
        let r = putting_piece (list_bytes list) (masks_bytes (drop i list)) at here b x P (bytes mask_bytes (get_or list i 0)) (masks_bytes (drop (i + 1) list)) h (masks_next list i l) in
        omega arith

    pub mask_more : (y : List ℕ) → y ≡ put_at x here (bytes mask_bytes (get_or list i 0)) → MasksPut list at b (i + 1) (here + mask_bytes) y
    mask_more y p =
        let n = bytes_length mask_bytes (get_or list i 0) in
        putting_more (list_bytes list) (masks_bytes (drop i list)) at here b x P (bytes mask_bytes (get_or list i 0)) (masks_bytes (drop (i + 1) list)) y (here + mask_bytes) h (masks_next list i l)
        (record { behind = omega arith; held = p })

  pub masks_all : (i here : ℕ) (x : List ℕ) → MasksPut list at b i here x → length list ≤ i → PutIn (list_bytes list) at here b x
  masks_all i here x P h = putting_all (list_bytes list) (masks_bytes (drop i list)) at here b x P (masks_none list i h)

-- the same of a list where it stands among all masks, with its masks put in at once
module _ (counts masks : List ℕ) (k n : ℕ) (z : GraphSized counts masks) (lk : k < lists) (e : n ≡ min (get_or counts k 0) max_masks) where
  list_bytes_lem : list_bytes (list_of counts masks k) ≡ n ∷ masks_bytes (slice (max_masks * k) (max_masks * k + n) masks)
  list_bytes_lem =
      let s = slice (max_masks * k) (max_masks * k + n) masks in
      let l = z.1 in
      let m : length s ≡ n = length-slice (max_masks * k) (max_masks * k + n) masks (omega arith) ∙ omega arith in
      ap list_bytes (list_is counts masks k n e) ∙ ap (λ (j : ℕ). j ∷ masks_bytes s) m

  pub masks_room : (at m : ℕ) → at + length (list_bytes (list_of counts masks k)) ≤ m → at + 1 + length (masks_bytes (slice (max_masks * k) (max_masks * k + n) masks)) ≤ m
  masks_room at m h = let l = ap length list_bytes_lem in omega arith

  pub list_put : (at r : ℕ) (b x y : List ℕ) → at + length (list_bytes (list_of counts masks k)) ≤ length b → x ≡ put_at b at (n ∷ [])
      → PutIn (masks_bytes (slice (max_masks * k) (max_masks * k + n) masks)) (at + 1) r x y → PutIn (list_bytes (list_of counts masks k)) at r b y
  list_put at r b x y h p q =
      let w = list_bytes (list_of counts masks k) in
      let s = masks_bytes (slice (max_masks * k) (max_masks * k + n) masks) in
      let P₁ = putting_more w w at at b b (putting_none w at b) (n ∷ []) s x (at + 1) h list_bytes_lem (record { behind = refl; held = p }) in
      putting_all w [] at r b y (putting_more w s at (at + 1) b x P₁ s [] y r h (sym (append-nil s)) q) refl

-- what a file can say of all masks it can say of each list
fits_take : (n : ℕ) (l : List ℕ) → MasksFit l → MasksFit (take n l)
fits_take zero l h i = h' i
  where
    h' : (i : ℕ) → get_or [] i 0 < 256 ^ mask_bytes
    h' zero = omega arith
    h' (suc i) = omega arith
fits_take (suc n) [] h i = h i
fits_take (suc n) (x ∷ l) h zero = h 0
fits_take (suc n) (x ∷ l) h (suc i) = fits_take n l (λ j. h (suc j)) i

pub list_fits : (counts masks : List ℕ) (k : ℕ) → MasksFit masks → MasksFit (list_of counts masks k)
unfolding list_of
list_fits counts masks k h i =
    let to = max_masks * k + min (get_or counts k 0) max_masks in
    subst (λ (x : ℕ). x < 256 ^ mask_bytes) (sym (get_or-drop (max_masks * k) (take to masks) i 0)) (fits_take to masks h (max_masks * k + i))

-- a list of a graph is put in where there is room for it
pub list_asks : (g : Graph) (k : ℕ) (list out : List ℕ) (here : ℕ) → list ≡ list_of g.counts g.masks k → MasksFit g.masks → here + length (list_bytes (list_of g.counts g.masks k)) ≤ length out
    → (length list ≤ max_masks) × Room list out here (list_bytes list)
list_asks g k list out here e f h =
    subst (λ (l : List ℕ). (length l ≤ max_masks) × Room l out here (list_bytes l)) (sym e)
    (list_most_lem g.counts g.masks k, record { fit = list_fits g.counts g.masks k f; room = h })

-- ---- the whole file
-- a front put in before what stands behind it
pub put_front : (b h v : List ℕ) (k : ℕ) → length h ≡ k → k ≤ length b → put_at (put_at b k v) 0 h ≡ put_at b 0 (h ++ v)
put_front b h v k e m =
    let d = drop (k + length v) b in
    let i : 0 + length h ≡ k = omega arith in
    let n = length-append h v in
    let j : k + length v ≡ 0 + length (h ++ v) = omega arith in
    ap (λ (x : List ℕ). h ++ x) (ap₂ (λ (x : ℕ) (y : List ℕ). drop x y) i (append_assoc (take k b) v d) ∙ drop_at (take k b) (v ++ d) k (length-take-le k b m))
    ∙ sym (append_assoc h v d) ∙ ap (λ (x : ℕ). h ++ v ++ drop x b) j

-- the longest file: every list has all its masks
abbrev pub file_most : ℕ
file_most = lists_at + list_most * lists

module _ (f : Contents) where
  pub file_length : length (file_bytes f) ≡ outer_len + length (body_bytes f)
  unfolding file_bytes
  file_length = length-append (bytes outer_len (length (body_bytes f))) (body_bytes f) ∙ omega (arith, bytes_length outer_len (length (body_bytes f)))

  pub body_length : length (body_bytes f) ≡ lists_at - version_at + length (lists_bytes f.quorums) + length (rows_bytes f.rows)
  body_length = omega (arith, length-append (lists_bytes f.quorums) (rows_bytes f.rows))

  pub file_least : lists_at ≤ length (file_bytes f)
  file_least = omega (arith, file_length, body_length)

pub file_most_lem : (n l : ℕ) (counts masks : List ℕ) → l ≤ max_learners → length (file_bytes (contents_of (held_graph n l counts masks))) ≤ file_most
unfolding triangle
file_most_lem n l counts masks h =
    let G = held_graph n l counts masks in
    let f = contents_of G in
    let a = file_length f in
    let b = body_length f in
    let q = lists_most (λ a. list_of counts masks a) (λ a. list_most_lem counts masks a) 0 l in
    let r = rows_most (λ a b. list_of counts masks (pair_list a b)) (λ a b. list_most_lem counts masks (pair_list a b)) 0 l in
    let t : triangle l + l < 45 = triangle_up l 9 (omega arith) in
    omega arith

-- the pieces in front of the lists, the lists, and then the count of all these bytes
module _ (f : Contents) (b : List ℕ) (m : 0 + length (file_bytes f) ≤ length b) where
  body_room : outer_len + length (body_bytes f) ≤ length b
  body_room = let e = file_length f in omega arith

  pub record Headed (x : List ℕ) : Type 0 where
    pub putting : Putting (body_bytes f) (lists_bytes f.quorums ++ rows_bytes f.rows) outer_len lists_at b x

  pub headed : (x y z : List ℕ) → x ≡ put_at b version_at (version ∷ []) → y ≡ put_at x acceptors_at (f.acceptors ∷ []) → z ≡ put_at y learners_at (f.learners ∷ []) → Headed z
  headed x y z p q r =
      let w = body_bytes f in
      let t = lists_bytes f.quorums ++ rows_bytes f.rows in
      let P₁ = putting_more w w outer_len outer_len b b (putting_none w outer_len b) (version ∷ []) (f.acceptors ∷ f.learners ∷ t) x acceptors_at body_room refl (record { behind = refl; held = p }) in
      let P₂ = putting_more w (f.acceptors ∷ f.learners ∷ t) outer_len acceptors_at b x P₁ (f.acceptors ∷ []) (f.learners ∷ t) y learners_at body_room refl (record { behind = refl; held = q }) in
      record { putting = putting_more w (f.learners ∷ t) outer_len learners_at b y P₂ (f.learners ∷ []) t z lists_at body_room refl (record { behind = refl; held = r }) }

  module _ (x : List ℕ) (H : Headed x) where
    pub quorums_room : lists_at + length (lists_bytes f.quorums) ≤ length b
    quorums_room = putting_piece (body_bytes f) (lists_bytes f.quorums ++ rows_bytes f.rows) outer_len lists_at b x H.putting (lists_bytes f.quorums) (rows_bytes f.rows) body_room refl

    module _ (at : ℕ) (y : List ℕ) (q : PutIn (lists_bytes f.quorums) lists_at at x y) where
      rest : Putting (body_bytes f) (rows_bytes f.rows) outer_len at b y
      rest = putting_more (body_bytes f) (lists_bytes f.quorums ++ rows_bytes f.rows) outer_len lists_at b x H.putting (lists_bytes f.quorums) (rows_bytes f.rows) y at body_room refl q

      pub rows_room : at + length (rows_bytes f.rows) ≤ length b
      rows_room = putting_room (body_bytes f) (rows_bytes f.rows) outer_len at b y rest body_room

      module _ (end : ℕ) (z : List ℕ) (r : PutIn (rows_bytes f.rows) at end y z) where
        body : PutIn (body_bytes f) outer_len end b z
        body =
            let t = rows_bytes f.rows in
            putting_all (body_bytes f) [] outer_len end b z (putting_more (body_bytes f) t outer_len at b y rest t [] z end body_room (sym (append-nil t)) r) refl

        pub body_end : end ≡ outer_len + length (body_bytes f)
        body_end = body.behind

        pub file_put : (u : List ℕ) → u ≡ put_at z 0 (bytes outer_len (end - outer_len)) → PutIn (file_bytes f) 0 end b u
        unfolding file_bytes
        file_put u e =
            let n = body_end in
            let l = file_length f in
            let k : end - outer_len ≡ length (body_bytes f) = omega arith in
            let h = bytes outer_len (length (body_bytes f)) in
            let c = body_room in
            record {
              behind = omega arith;
              held = e ∙ ap₂ (λ (p : List ℕ) (j : ℕ). put_at p 0 (bytes outer_len j)) body.held k ∙ put_front b h (body_bytes f) outer_len (bytes_length outer_len (length (body_bytes f))) (omega arith);
            }
