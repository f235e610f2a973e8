-- The words in which calls state their refusals.
use Rattle.std.specs.Prelude.{◌≡◌, ℕ, zero, suc, ◌≤◌, Bool, cond, ◌&&◌, List, [], ◌∷◌, ◌++◌, length, drop, Some, None, Ok, Err, Option, Result, nat_le}
use Rattle.base.specs.declared.fault.Fault.{Fault}
use Rattle.base.specs.declared.fault.Layer.TheVariants.{Bits}
use Rattle.base.specs.Refusal.{Said, says, said}

-- A question is a test, with what is said where it fails.
pub record Question : Type 0 where
  pub holds : Bool
  pub otherwise : Said

-- A question, by its two parts.
abbrev pub ask : Bool → Said → Question
ask test words = record { holds = test; otherwise = words }

-- Questions are asked in turn, up to the first that fails: what that one says, or nothing where all hold.
unfoldable pub first_no : List Question → Option Said
first_no [] = None
first_no (q ∷ qs) = cond q.holds (first_no qs) (Some q.otherwise)

-- The questions about each number below n, one number after the other.
unfoldable pub asked_below : (ℕ → List Question) → ℕ → List Question
asked_below about zero = []
asked_below about (suc n) = asked_below about n ++ about n

-- Does x lie from `least` to `most`?
abbrev pub within : ℕ → ℕ → ℕ → Bool
within least x most = nat_le least x && nat_le x most

-- A call was taken: all its questions hold, and it did what it is for.
pub record Taken (qs : List Question) (done : Type 0) : Type 0 where
  pub all_hold : first_no qs ≡ None
  pub does : done

-- A call was refused: its fault says what the first question says that fails, and what was lent is as it was.
pub record Refused (qs : List Question) (f : Fault) (kept : Type 0) : Type 0 where
  pub fails : first_no qs ≡ Some (said f)
  pub keeps : kept

-- A call that asks the questions `qs`: `done` holds of what it answers, or it is refused and `kept` holds.
abbrev pub Asks : {T : Type 0} → List Question → (T → Type 0) → Type 0 → Result T Fault → Type 0
Asks qs done kept (Ok x) = Taken qs (done x)
Asks qs done kept (Err f) = Refused qs f kept

-- Question 10: does the target hold so many bytes? The place is how many are needed.
abbrev pub space : ℕ → List ℕ → List Question
space needed target = ask (nat_le needed (length target)) (says 10 needed Bits) ∷ []

-- That of all bytes of a text.
abbrev pub room : List ℕ → List ℕ → List Question
room text target = space (length text) target

-- A text was written to the front of a target, which held `old` and then holds `new`: k bytes, and the rest is as it was.
pub record Written (text old new : List ℕ) (k : ℕ) : Type 0 where
  pub count : k ≡ length text
  pub fits : k ≤ length old
  pub bytes : new ≡ text ++ drop k old

-- A call that writes a text to the front of a lent target: it asks question 10, answers how many bytes it wrote, and leaves
-- the rest of the target as it was, or all of it where it is refused.
abbrev pub Writes : List ℕ → List ℕ → List ℕ → Result ℕ Fault → Type 0
Writes text old new r = Asks (room text old) (Written text old new) (new ≡ old) r
