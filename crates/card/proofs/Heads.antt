-- A head that was written in range is read back, and what is read has the bits of its head.
use Rattle.std.proofs.Common.{◌≡◌, ℕ, ◌^◌, ◌<◌, List, [], ◌++◌, length, take, None, sym, refl, ap, ◌∙◌, ap₂, arith}
use Rattle.std.proofs.lemmas.Bool.Decides.{nat_tests}
use Rattle.std.proofs.lemmas.List.{length-append, append_assoc, take_at, drop_at}
use Rattle.std.proofs.Math.Seq.{take-add}
use Rattle.base.specs.Questions.{first_no}
use Rattle.bits.specs.Fields.{field, number, cut, value_at}
use Rattle.bits.specs.Reading.{Got}
use Rattle.bits.proofs.Packing.{length-field, number-field}
use Rattle.card.specs.Heading.{head, heading, Headed, Ranges, HeadReadsBack}

-- what stands behind xs is cut out there
pub cut_behind : (us xs zs ys : List ℕ) (p w : ℕ) → us ≡ xs ++ (zs ++ ys) → length xs ≡ p → length zs ≡ w → cut us p w ≡ zs
cut_behind us xs zs ys p w e at_p long = ap (λ vs. cut vs p w) e ∙ ap (λ vs. take w vs) (drop_at xs (zs ++ ys) p at_p) ∙ take_at zs ys w long

-- a field that stands behind xs is read there
pub behind : (us xs : List ℕ) (p w x : ℕ) (ys : List ℕ) → us ≡ xs ++ (field w x ++ ys) → length xs ≡ p → x < 2 ^ w → Got us p w x
unfolding value_at
behind us xs p w x ys e at_p small =
    let cuts : cut us p w ≡ field w x = cut_behind us xs (field w x) ys p w e at_p (length-field w x) in
    let len = length-append xs (field w x ++ ys) in
    let more = length-append (field w x) ys in
    let wide = length-field w x in
    let all = ap length e in
    record { there = omega arith; value = sym (ap number cuts ∙ number-field w x small); small = small; same_bits = cuts }

pub length-head : (n m d : ℕ) → length (head n m d) ≡ 33
unfolding head
length-head n m d =
    let a = length-append (field 4 1) (field 7 n ++ (field 5 m ++ field 17 d)) in
    let b = length-append (field 7 n) (field 5 m ++ field 17 d) in
    let c = length-append (field 5 m) (field 17 d) in
    let e = length-field 4 1 in let f = length-field 7 n in let g = length-field 5 m in let h = length-field 17 d in
    omega arith

-- four fields that were read are the head
pub headed : (us : List ℕ) (n m d : ℕ) → Got us 0 4 1 → Got us 4 7 n → Got us 11 5 m → Got us 16 17 d → Headed us n m d
unfolding head
headed us n m d v j c l = record {
  jobs = j.value;
  crews = c.value;
  layover = l.value;
  bits =
      take-add 16 17 us ∙ ap₂ (λ xs ys. xs ++ ys) (take-add 11 5 us ∙ ap₂ (λ xs ys. xs ++ ys) (take-add 4 7 us ∙ ap₂ (λ xs ys. xs ++ ys) v.same_bits j.same_bits) c.same_bits) l.same_bits
      ∙ simp append_assoc;
}

-- where they are in range, the head is not refused
not_refused : (us : List ℕ) (n m d : ℕ) → Got us 0 4 1 → Got us 4 7 n → Got us 11 5 m → Got us 16 17 d → Ranges n m d → first_no (heading us) ≡ None
unfolding heading first_no
not_refused us n m d v j c l r = grind (arith, nat_tests)

pub head_reads_back : HeadReadsBack
unfolding head
head_reads_back n m d rest r =
    let us = head n m d ++ rest in
    let v = field 4 1 in
    let j = field 7 n in
    let c = field 5 m in
    let l = field 17 d in
    let front : us ≡ [] ++ (v ++ (j ++ (c ++ (l ++ rest)))) = simp append_assoc in
    let at_4 : length ([] ++ v) ≡ 4 = length-field 4 1 in
    let at_11 : length (v ++ j) ≡ 11 = length-append v j ∙ (let a = length-field 4 1 in let b = length-field 7 n in omega arith) in
    let at_16 : length (v ++ (j ++ c)) ≡ 16 = length-append v (j ++ c) ∙ (let a = length-field 4 1 in let b = length-append j c in let e = length-field 7 n in let f = length-field 5 m in omega arith) in
    let version = behind us [] 0 4 1 (j ++ (c ++ (l ++ rest))) front refl (omega arith) in
    let jobs = behind us v 4 7 n (c ++ (l ++ rest)) front at_4 (omega arith) in
    let crews = behind us (v ++ j) 11 5 m (l ++ rest) (simp append_assoc) at_11 (omega arith) in
    let layover = behind us (v ++ (j ++ c)) 16 17 d rest (simp append_assoc) at_16 (omega arith) in (
      not_refused us n m d version jobs crews layover r,
      headed us n m d version jobs crews layover,
    )
