-- The report by what it says: it is undecided, decided b or split b c exactly if the ballots that decide are as document 01 says.
use mathlib.Core.Path.{◌≡◌, refl, sym, ap, subst, ◌∙◌}
use mathlib.Core.Logic.{◌⊎◌, inl, inr, ◌↔◌, ◌≢◌}
use mathlib.Core.Bool.{not}
use mathlib.Core.List.Memᴰ
use mathlib.Core.List.{List, [], ◌∷◌, map}
use Prim.Native.Nat.{ℕ, ◌≤◌, min}
use native.Mathlib.Omega.{arith}
use lib.Dec.{T, eqb, leb, eqb→eq, leb→le, nleb→lt}
use Rattle.base.specs.Tests.{◌∈◌, filter}
use Rattle.base.proofs.Tests.{dec_T, neqb→ne, ne→neqb, filter_in, filter_out, map_in, map_out}
use Rattle.base.specs.Ballots.{value_of}
use Rattle.graph.specs.LearnerGraph.{LearnerGraph}
use Rattle.protocol.specs.Message.{Message, is2a, ballot}
use Rattle.protocol.specs.Report.{decides, deciding, least, others, Verdict, undecided, decided, split, against, verdict, report}
use Rattle.protocol.specs.Equations.{Least, Says, Peopled, ReportSays}
use Rattle.protocol.proofs.Decides.{decides_law}

-- ---- only one verdict says what is so of the ballots D that decide
least_one : (D : ℕ → Type 0) (b c : ℕ) → Least D b → Least D c → b ≡ c
least_one D b c (i, f) (j, g) = omega (arith, f c j, g b i)

says_one : (D : ℕ → Type 0) (v w : Verdict) → Says D v → Says D w → v ≡ w
says_one D undecided undecided h k = refl
says_one D undecided (decided c) h k = absurd (h c k.0.0)
says_one D undecided (split c d) h k = absurd (h c k.0.0)
says_one D (decided b) undecided h k = absurd (k b h.0.0)
says_one D (decided b) (decided c) h k = ap decided (least_one D b c h.0 k.0)
says_one D (decided b) (split c d) h k = absurd (k.1.0.1 (h.1 d k.1.0.0 ∙ sym (h.1 c k.0.0)))
says_one D (split b e) undecided h k = absurd (k b h.0.0)
says_one D (split b e) (decided c) h k = absurd (h.1.0.1 (k.1 e h.1.0.0 ∙ sym (k.1 b h.0.0)))
says_one D (split b e) (split c d) h k =
    let p : b ≡ c = least_one D b c h.0 k.0 in
    let q : Least (λ x. D x × (value_of x ≢ value_of b)) d = subst (λ (n : ℕ). Least (λ x. D x × (value_of x ≢ value_of n)) d) (sym p) k.1 in
    let r : e ≡ d = least_one (λ x. D x × (value_of x ≢ value_of b)) e d h.1 q in
    λ i. split (p i) (r i)

pub says_cong : (D E : ℕ → Type 0) → ((x : ℕ) → D x ↔ E x) → (v : Verdict) → Says D v → Says E v
says_cong D E f undecided h = λ x k. h x ((f x).1 k)
says_cong D E f (decided b) ((i, g), h) = (((f b).0 i, λ x k. g x ((f x).1 k)), λ x k. h x ((f x).1 k))
says_cong D E f (split b c) ((i, g), ((j, ne), h)) = (((f b).0 i, λ x k. g x ((f x).1 k)), (((f c).0 j, ne), λ x (k, n). h x ((f x).1 k, n)))

-- ---- the least of a list
least_in : (x : ℕ) (l : List ℕ) → least x l ∈ x ∷ l
unfolding least
least_in x [] = Memᴰ.head refl
least_in x (y ∷ l) = step (least_in y l) (dec_T (leb x (least y l)))
  where
    step : least y l ∈ y ∷ l → T (leb x (least y l)) ⊎ T (not (leb x (least y l))) → min x (least y l) ∈ x ∷ y ∷ l
    step k (inl h) = let e : min x (least y l) ≡ x = omega (arith, leb→le) in Memᴰ.head e
    step k (inr h) = let e : min x (least y l) ≡ least y l = omega (arith, nleb→lt) in Memᴰ.tail (Memᴰ.cast e k)

least_le : (x : ℕ) (l : List ℕ) (z : ℕ) → z ∈ x ∷ l → least x l ≤ z
unfolding least
least_le x [] z k = step (Memᴰ.cases_cons k)
  where
    step : (z ≡ x) ⊎ (z ∈ []) → x ≤ z
    step (inl e) = omega arith
    step (inr q) = elim q [ ]
least_le x (y ∷ l) z k = step (λ (q : z ∈ y ∷ l). least_le y l z q) (Memᴰ.cases_cons k)
  where
    step : (z ∈ y ∷ l → least y l ≤ z) → (z ≡ x) ⊎ (z ∈ y ∷ l) → min x (least y l) ≤ z
    step f (inl e) = omega arith
    step f (inr q) = omega (arith, f q)

others_law : (b : ℕ) (l : List ℕ) (x : ℕ) → x ∈ others b l ↔ ((x ∈ l) × (value_of x ≢ value_of b))
unfolding others
others_law b l x = (
  λ h. let (i, j) = filter_out (λ x. not (eqb (value_of x) (value_of b))) l h in (i, neqb→ne (value_of x) (value_of b) j),
  λ (i, ne). filter_in (λ x. not (eqb (value_of x) (value_of b))) i (ne→neqb (value_of x) (value_of b) ne),
)

-- ---- the verdict says what it should of its list
against_says : (l : List ℕ) (b : ℕ) → Least (λ x. x ∈ l) b → (o : List ℕ) → ((x : ℕ) → x ∈ o ↔ ((x ∈ l) × (value_of x ≢ value_of b))) → Says (λ x. x ∈ l) (against b o)
unfolding against
against_says l b h [] f = (h, λ x k. step x k (dec_T (eqb (value_of x) (value_of b))))
  where
    none : {x : ℕ} → x ∈ [] → ⊥
    none q = elim q [ ]

    step : (x : ℕ) → x ∈ l → T (eqb (value_of x) (value_of b)) ⊎ T (not (eqb (value_of x) (value_of b))) → value_of x ≡ value_of b
    step x k (inl t) = eqb→eq (value_of x) (value_of b) t
    step x k (inr t) = absurd (none ((f x).1 (k, neqb→ne (value_of x) (value_of b) t)))
against_says l b h (c ∷ o) f = (h, ((f (least c o)).0 (least_in c o), λ x k. least_le c o x ((f x).1 k)))

says_verdict : (l : List ℕ) → Says (λ x. x ∈ l) (verdict l)
unfolding verdict
says_verdict [] = λ x k. elim k [ ]
says_verdict (x ∷ l) = against_says (x ∷ l) (least x l) (least_in x l, λ z k. least_le x l z k) (others (least x l) (x ∷ l)) (λ z. others_law (least x l) (x ∷ l) z)

-- ---- the ballots that decide
module _ (G : LearnerGraph) (K : List Message) (a : ℕ) where
  -- x decides for a, and a known 2a has it
  abbrev pub Deciding : ℕ → Type 0
  Deciding x = T (decides G K a x) × ((m : Message) × (m ∈ K) × T (is2a m) × (ballot m ≡ x))

  pub deciding_law : (x : ℕ) → x ∈ deciding G K a ↔ Deciding x
  unfolding deciding
  deciding_law x = (to, from)
    where
      to : x ∈ filter (decides G K a) (map ballot (filter is2a K)) → Deciding x
      to h =
          let (i, d) = filter_out (decides G K a) (map ballot (filter is2a K)) h in
          let (m, j, e) = map_out ballot (filter is2a K) i in
          let (k, two) = filter_out is2a K j in
          (d, (m, k, two, sym e))

      from : Deciding x → x ∈ filter (decides G K a) (map ballot (filter is2a K))
      from (d, (m, k, two, e)) = filter_in (decides G K a) (Memᴰ.cast (sym e) (map_in ballot (filter_in is2a k two))) d

  -- THE LAW of the report
  pub report_law : (v : Verdict) → (report G K a ≡ v) ↔ Says Deciding v
  unfolding report
  report_law v = (λ e. subst (Says Deciding) e says, λ h. says_one Deciding (verdict (deciding G K a)) v says h)
    where
      says : Says Deciding (verdict (deciding G K a))
      says = says_cong (λ x. x ∈ deciding G K a) Deciding deciding_law (verdict (deciding G K a)) (says_verdict (deciding G K a))

  -- where every listed quorum names an acceptor, a ballot that decides is that of a known 2a: so the report speaks of all that decide
  pub deciding_all : Peopled G a → (x : ℕ) → Deciding x ↔ T (decides G K a x)
  deciding_all peopled x = (λ h. h.0, λ d. (d, voter d))
    where
      voter : T (decides G K a x) → (m : Message) × (m ∈ K) × T (is2a m) × (ballot m ≡ x)
      voter d =
          let (q, i, f) = (decides_law G K a x).0 d in
          let (p, l, t) = peopled q i in
          let (m, k, two, e, _, _) = f p l t in
          (m, k, two, e)

pub report_says : ReportSays
report_says G K a peopled v = (
  λ e. says_cong (Deciding G K a) (λ x. T (decides G K a x)) (deciding_all G K a peopled) v ((report_law G K a v).0 e),
  λ h. (report_law G K a v).1 (says_cong (λ x. T (decides G K a x)) (Deciding G K a) (λ x. ((deciding_all G K a peopled x).1, (deciding_all G K a peopled x).0)) v h),
)

pub report_undecided : (G : LearnerGraph) (K : List Message) (a : ℕ) → Peopled G a → (report G K a ≡ undecided) ↔ ((x : ℕ) → T (decides G K a x) → ⊥)
report_undecided G K a peopled = report_says G K a peopled undecided
