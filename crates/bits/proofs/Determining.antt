-- A field and its value, and bytes and their bits, determine each other.
use Rattle.std.proofs.Common.{◌≡◌, ℕ, zero, suc, ◌+◌, ◌*◌, ◌<◌, ◌≤◌, List, [], ◌∷◌, ◌++◌, length, get_or, take, drop, sym, refl, ap, ◌∙◌, add-one, arith}
use Rattle.std.proofs.lemmas.List.{take_more, take_all, take_at, drop_at}
use Rattle.bits.specs.Fields.{field, bits_of, number}
use Rattle.bits.specs.Laws.{ValueGivesBits, BitsGiveBytes}
use Rattle.bits.proofs.Packing.{length-field, length-bits, field_more, number_push, number-field}

front : (us : List ℕ) → ((i : ℕ) → get_or us i 0 < 2) → (k : ℕ) → k ≤ length us → field k (number (take k us)) ≡ take k us
unfolding field
front us h zero l = refl
front us h (suc k) l =
    let more : take (suc k) us ≡ take k us ++ get_or us k 0 ∷ [] = ap (λ n. take n us) (sym (add-one k)) ∙ take_more us k 0 (omega arith) in
    ap (λ ys. field (suc k) (number ys)) more ∙ ap (λ x. field (suc k) x) (number_push (take k us) (get_or us k 0))
    ∙ ap (λ n. field n (number (take k us) * 2 + get_or us k 0)) (sym (add-one k)) ∙ field_more k (number (take k us)) (get_or us k 0) (h k)
    ∙ ap (λ ys. ys ++ get_or us k 0 ∷ []) (front us h k (omega arith)) ∙ sym more

pub value_gives_bits : ValueGivesBits
value_gives_bits us h =
    let all = take_all (length us) us (omega arith) in
    ap (λ ys. field (length us) (number ys)) (sym all) ∙ front us h (length us) (omega arith) ∙ all

pub bits_give_bytes : BitsGiveBytes
unfolding bits_of
bits_give_bytes [] [] h g e = refl
bits_give_bytes [] (c ∷ cs) h g e = let m = ap length e in let n = length-bits (c ∷ cs) in absurd (omega arith)
bits_give_bytes (b ∷ bs) [] h g e = let m = ap length e in let n = length-bits (b ∷ bs) in absurd (omega arith)
bits_give_bytes (b ∷ bs) (c ∷ cs) h g e =
    let first : field 8 b ≡ field 8 c =
    sym (take_at (field 8 b) (bits_of bs) 8 (length-field 8 b)) ∙ ap (λ ys. take 8 ys) e ∙ take_at (field 8 c) (bits_of cs) 8 (length-field 8 c) in
    let rest : bits_of bs ≡ bits_of cs =
    sym (drop_at (field 8 b) (bits_of bs) 8 (length-field 8 b)) ∙ ap (λ ys. drop 8 ys) e ∙ drop_at (field 8 c) (bits_of cs) 8 (length-field 8 c) in
    let same : b ≡ c = sym (number-field 8 b (h 0)) ∙ ap number first ∙ number-field 8 c (g 0) in
    ap (λ y. y ∷ bs) same ∙ ap (λ ys. c ∷ ys) (bits_give_bytes bs cs (λ i. h (suc i)) (λ i. g (suc i)) rest)
