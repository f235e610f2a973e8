-- Laws of questions that are asked in turn.
use Rattle.std.proofs.Common.{◌≡◌, ℕ, zero, suc, ◌+◌, ◌<◌, ◌≤◌, true, false, List, [], ◌∷◌, ◌++◌, Some, None, Result, refl, ◌∙◌, ap₂, inl, inr, add-one, arith}
use Rattle.std.specs.Result.{IsErr, IsErrAnd}
use Rattle.std.proofs.lemmas.Result.{err_from_is_err_and}
use Rattle.std.proofs.lemmas.Bool.{cases_lt}
use Rattle.std.proofs.lemmas.Bool.Decides.{nat_tests}
use Rattle.base.specs.declared.fault.Fault.{Fault}
use Rattle.base.specs.Refusal.{Said, said}
use Rattle.base.specs.Questions.{Question, first_no, asked_below, within, Refused, Asks}

-- a question that holds is passed over
pub passed : (q : Question) (qs : List Question) → q.holds ≡ true → first_no (q ∷ qs) ≡ first_no qs
unfolding first_no
passed q qs e = rw e

-- one that fails speaks
pub failed : (q : Question) (qs : List Question) → q.holds ≡ false → first_no (q ∷ qs) ≡ Some q.otherwise
unfolding first_no
failed q qs e = rw e

pub nothing_asked : first_no [] ≡ None
unfolding first_no
nothing_asked = refl

-- where all of the first questions hold, the others decide
pub all_passed : (xs ys : List Question) → first_no xs ≡ None → first_no (xs ++ ys) ≡ first_no ys
unfolding first_no
all_passed [] ys e = refl
all_passed (x ∷ xs) ys e = grind (arith, nat_tests, all_passed xs ys)

-- where one of the first questions fails, the others are not asked
pub one_failed : (xs ys : List Question) (s : Said) → first_no xs ≡ Some s → first_no (xs ++ ys) ≡ Some s
unfolding first_no
one_failed [] ys s e = cc
one_failed (x ∷ xs) ys s e = grind (arith, nat_tests, one_failed xs ys s)

-- a refusal is handed on, as `?` does: `r` is what is returned
pub refused : {T : Type 0} (xs : List Question) (done : T → Type 0) (kept : Type 0) (r : Result T Fault) (f : Fault) → IsErr r × IsErrAnd r (λ e. e ≡ f) → Refused xs f kept → Asks xs done kept r
refused xs done kept r f e t = let p = err_from_is_err_and r e.1 in rw (p.1, p.2) t

-- the same of a call that refuses: the first questions hold, and one of the others is answered no
pub then_refused : (xs ys : List Question) (f : Fault) → first_no xs ≡ None → Refused ys f (Unit {0}) → Refused (xs ++ ys) f (Unit {0})
then_refused xs ys f e r = record { fails = all_passed xs ys e ∙ r.fails; keeps = r.keeps }

-- or one of the first is
pub stopped : (xs ys : List Question) (f : Fault) (kept : Type 0) → Refused xs f kept → Refused (xs ++ ys) f kept
stopped xs ys f kept r = record { fails = one_failed xs ys (said f) r.fails; keeps = r.keeps }

-- where all questions hold, the first does
pub held : (q : Question) (qs : List Question) → first_no (q ∷ qs) ≡ None → q.holds ≡ true
unfolding first_no
held q qs e = grind (arith, nat_tests)

-- where all questions hold, the first ones and the others do
pub both_held : (xs ys : List Question) → first_no (xs ++ ys) ≡ None → (first_no xs ≡ None) × (first_no ys ≡ None)
unfolding first_no
both_held [] ys e = (refl, e)
both_held (x ∷ xs) ys e = grind (arith, nat_tests, both_held xs ys)

-- a value in its range
pub inside : (least x most : ℕ) → least ≤ x → x ≤ most → within least x most ≡ true
inside least x most l h = grind (arith, nat_tests)

-- and what it is to be in its range
pub bounds : (least x most : ℕ) → within least x most ≡ true → (least ≤ x) × (x ≤ most)
bounds least x most e = grind (arith, nat_tests)

-- ---- questions about each number below another

pub asked_none : (about : ℕ → List Question) → first_no (asked_below about 0) ≡ None
unfolding asked_below first_no
asked_none about = refl

-- all hold up to n, and those about n do
pub asked_more : (about : ℕ → List Question) (n : ℕ) → first_no (asked_below about n) ≡ None → first_no (about n) ≡ None → first_no (asked_below about (n + 1)) ≡ None
unfolding asked_below
asked_more about n a b = rw (add-one n) (all_passed (asked_below about n) (about n) a ∙ b)

pub asked_all : (about : ℕ → List Question) (n : ℕ) → ((v : ℕ) → v < n → first_no (about v) ≡ None) → first_no (asked_below about n) ≡ None
unfolding asked_below
asked_all about zero h = nothing_asked
asked_all about (suc n) h = all_passed (asked_below about n) (about n) (asked_all about n (λ v l. h v (omega arith))) ∙ h n (omega arith)

-- one about v fails, and all before it hold
pub asked_stops : (about : ℕ → List Question) (n v : ℕ) (s : Said) → v < n → first_no (asked_below about v) ≡ None → first_no (about v) ≡ Some s → first_no (asked_below about n) ≡ Some s
unfolding asked_below
asked_stops about zero v s l a e = absurd (omega arith)
asked_stops about (suc n) v s l a e = elim (cases_lt v n) [
  | inl g ↦ one_failed (asked_below about n) (about n) s (asked_stops about n v s g a e)
  | inr g ↦ let q : v ≡ n = omega arith in
      let a' : first_no (asked_below about n) ≡ None = rw q at a in
      let e' : first_no (about n) ≡ Some s = rw q at e in
      all_passed (asked_below about n) (about n) a' ∙ e'
]

-- a call that stands on one about v, which is refused
pub asked_to : {T : Type 0} (about : ℕ → List Question) (n v : ℕ) (done : T → Type 0) (kept : Type 0) (r : Result T Fault) (f : Fault) → IsErr r × IsErrAnd r (λ e. e ≡ f) → v < n → first_no (asked_below about v) ≡ None → Refused (about v) f kept → Asks (asked_below about n) done kept r
asked_to about n v done kept r f e l a t = refused (asked_below about n) done kept r f e record { fails = asked_stops about n v (said f) l a t.fails; keeps = t.keeps }

-- where all hold, those about each number do
pub asked_held : (about : ℕ → List Question) (n v : ℕ) → first_no (asked_below about n) ≡ None → v < n → first_no (about v) ≡ None
unfolding asked_below
asked_held about zero v h l = absurd (omega arith)
asked_held about (suc n) v h l =
    let p = both_held (asked_below about n) (about n) h in
    elim (cases_lt v n) [ inl g ↦ asked_held about n v p.0 g | inr g ↦ let q : n ≡ v = omega arith in rw q at p.1 ]

-- the same questions about each number
pub asked_same : (a b : ℕ → List Question) (n : ℕ) → ((v : ℕ) → v < n → a v ≡ b v) → asked_below a n ≡ asked_below b n
unfolding asked_below
asked_same a b zero h = refl
asked_same a b (suc n) h = ap₂ (λ x y. x ++ y) (asked_same a b n (λ v l. h v (omega arith))) (h n (omega arith))
