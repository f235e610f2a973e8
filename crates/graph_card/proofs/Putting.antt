-- Writing the fields of a card, one after the other.
use Rattle.std.proofs.Common.{◌≡◌, ℕ, zero, suc, ◌+◌, ◌-◌, ◌*◌, ◌/◌, ◌^◌, ◌<◌, ◌≤◌, Bool, true, false, ltb, leb, List, [], ◌++◌, length, take, drop, replicate, sym, ap, ◌∙◌, subst, ap₂, zero-add, add-one, arith}
use Rattle.std.proofs.lemmas.List.{append_assoc, append-nil, length-append, length-take-le, length-drop, take-append-drop, take_at, drop_at, drop-drop, drop-append-le, drop-replicate}
use Rattle.std.proofs.lemmas.Bool.{both_ways, and_from, le-leb, lt-ltb}
use Rattle.base.specs.declared.job_set.JobSet.{JobSet}
use Rattle.bits.specs.Bytes.{filled}
use Rattle.bits.specs.Fields.{field, bits_of, cut}
use Rattle.bits.specs.Trailing.{whole}
use Rattle.bits.specs.Writing.{Wrote, WritesField}
use Rattle.bits.proofs.Filling.{Bytes, bytes_append, bytes_drop, bits_join, bits_zero_bytes, length-bytes, length_zeros, small_bytes, bytes_hold_bits, bits_append, bits_field, Bits}
use Rattle.bits.proofs.Packing.{length-field, length-bits}
use Rattle.bits.proofs.Determining.{bits_give_bytes}
use Rattle.graph.specs.declared.graph.Graph.{Graph}
use Rattle.graph.specs.Rules.{time_at, preds_at}
use Rattle.graph_card.specs.Layout.{marks, row, rows, start, fields}
use Rattle.card.specs.Heading.{head}
use Rattle.card.proofs.Heads.{length-head}
use Rattle.graph_card.specs.Cards.{fields_of, card}
use Rattle.graph_card.specs.Parts.{Put}
use Rattle.graph_card.proofs.Marking.{length-marks, marks_none, marks_small}
use Rattle.graph_card.proofs.Spacing.{start_is, start_mono, start_range, start_zero, start_suc}

-- ---- one field

-- the bits, in three parts
parts : (vs : List ℕ) (p w : ℕ) → vs ≡ take p vs ++ (cut vs p w ++ drop (p + w) vs)
parts vs p w = sym (ap (λ ys. take p vs ++ ys) (ap (λ ys. cut vs p w ++ ys) (sym (drop-drop w p vs)) ∙ take-append-drop w (drop p vs)) ∙ take-append-drop p vs)

pub put_field : (us vs : List ℕ) (p w x : ℕ) → Wrote us p w x vs → Put us p (field w x) vs
put_field us vs p w x r =
    let e = length-field w x in record {
      room = let l = r.there in omega arith;
      bits = parts vs p w ∙ ap₂ (λ xs ys. xs ++ ys) r.front (ap₂ (λ xs ys. xs ++ ys) r.same_bits (r.back ∙ ap (λ n. drop (p + n) us) (sym e)));
    }

-- there is room, and the value fits: the field is written
pub puts : (old new : List ℕ) (p w x : ℕ) (r : Bool) → WritesField old p w x r new → p + w ≤ 8 * length old → x < 2 ^ w → Put (bits_of old) p (field w x) (bits_of new)
puts old new p w x true h room fits = put_field (bits_of old) (bits_of new) p w x h
puts old new p w x false h room fits =
    let len = length-bits old in
    absurd (both_ways _ h.unfit (and_from (leb (p + w) (length (bits_of old))) (ltb x (2 ^ w)) (le-leb (p + w) (length (bits_of old)) (omega arith)) (lt-ltb x (2 ^ w) fits)))

-- ---- one after the other

pub put_none : (us : List ℕ) (p : ℕ) → p ≤ length us → Put us p [] us
put_none us p l = record { room = omega arith; bits = sym (ap (λ n. take p us ++ drop n us) (omega arith) ∙ take-append-drop p us) }

pub put_then : (us vs ws : List ℕ) (p q : ℕ) (xs ys : List ℕ) → q ≡ p + length xs → Put us p xs vs → Put vs q ys ws → Put us p (xs ++ ys) ws
put_then us vs ws p q xs ys at a b =
    let front : length (take p us ++ xs) ≡ q = length-append (take p us) xs ∙ (let l = length-take-le p us (let r = a.room in omega arith) in omega arith) in
    let is : vs ≡ (take p us ++ xs) ++ drop q us = a.bits ∙ sym (append_assoc (take p us) xs (drop (p + length xs) us)) ∙ ap (λ n. (take p us ++ xs) ++ drop n us) (sym at) in
    let t : take q vs ≡ take p us ++ xs = ap (λ zs. take q zs) is ∙ take_at (take p us ++ xs) (drop q us) q front in
    let d : drop q vs ≡ drop q us = ap (λ zs. drop q zs) is ∙ drop_at (take p us ++ xs) (drop q us) q front in
    let both : length (xs ++ ys) ≡ length xs + length ys = length-append xs ys in
    let long : length vs ≡ length us = ap length is ∙ length-append (take p us ++ xs) (drop q us) ∙ (let l = length-drop q us in let r = a.room in omega arith) in
    let far : q + length ys ≡ p + length (xs ++ ys) = omega arith in
    let rest : drop (q + length ys) vs ≡ drop (p + length (xs ++ ys)) us = sym (drop-drop (length ys) q vs) ∙ ap (λ zs. drop (length ys) zs) d ∙ drop-drop (length ys) q us ∙ ap (λ n. drop n us) far in
    record {
      room = let r = b.room in omega arith;
      bits = b.bits ∙ ap₂ (λ zs rs. zs ++ (ys ++ rs)) t rest ∙ append_assoc (take p us) xs (ys ++ drop (p + length (xs ++ ys)) us)
          ∙ ap (λ zs. take p us ++ zs) (sym (append_assoc xs ys (drop (p + length (xs ++ ys)) us)));
    }

pub put_as : (us vs : List ℕ) (p : ℕ) (xs ys : List ℕ) → xs ≡ ys → Put us p xs vs → Put us p ys vs
put_as us vs p xs ys e r = let P : List ℕ → Type 0 = λ zs. Put us p zs vs in subst P e r

-- ---- how long the parts are

pub length-row : (t s v : ℕ) → length (row t s v) ≡ 11 + v
length-row t s v = length-append (field 11 t) (marks s v) ∙ (let a = length-field 11 t in let b = length-marks s v in omega arith)

pub length-rows : (ts : List ℕ) (ps : List JobSet) (n : ℕ) → 33 + length (rows ts ps n) ≡ start n
unfolding rows
length-rows ts ps zero = sym start_zero
length-rows ts ps (suc n) =
    let a = length-append (rows ts ps n) (row (time_at ts n) (preds_at ps n) n) in
    let b = length-row (time_at ts n) (preds_at ps n) n in
    let c = length-rows ts ps n in
    let e = start_suc n in
    omega arith

pub length_fields : (g : Graph) → length (fields_of g) ≡ start g.jobs
unfolding fields
length_fields g =
    length-append (head g.jobs g.crews g.layover) (rows g.times g.preds g.jobs)
    ∙ (let a = length-head g.jobs g.crews g.layover in let b = length-rows g.times g.preds g.jobs in omega arith)

pub length-card : (g : Graph) → length (card g) ≡ (start g.jobs + 7) / 8
length-card g = length-bytes (fields_of g) ∙ ap (λ n. (n + 7) / 8) (length_fields g)

-- ---- the head and the rows

pub put_head : (us vs ws xs ys : List ℕ) (n m d n' m' d' : ℕ) → Put xs 16 (field 17 d) ys → Put ws 11 (field 5 m) xs → Put vs 4 (field 7 n) ws → Put us 0 (field 4 1) vs → n ≡ n' → m ≡ m' → d ≡ d' → Put us 0 (head n' m' d') ys
unfolding head
put_head us vs ws xs ys n m d n' m' d' e c b a p q r =
    let l4 = length-field 4 1 in
    let l7 = length-field 7 n in
    let l5 = length-field 5 m in
    let two = put_then us vs ws 0 4 (field 4 1) (field 7 n) (omega arith) a b in
    let len2 = length-append (field 4 1) (field 7 n) in
    let three = put_then us ws xs 0 11 (field 4 1 ++ field 7 n) (field 5 m) (omega arith) two c in
    let len3 = length-append (field 4 1 ++ field 7 n) (field 5 m) in
    let four = put_then us xs ys 0 16 ((field 4 1 ++ field 7 n) ++ field 5 m) (field 17 d) (omega arith) three e in
    rw (← p, ← q, ← r) (put_as us ys 0 _ _ (simp append_assoc) four)

-- of a job that has no predecessor field
pub put_first : (us vs : List ℕ) (v p w t t' s : ℕ) → Put us p (field w t') vs → v ≡ 0 → p ≡ start v → w ≡ 11 → t' ≡ t → Put us (start v) (row t s v) vs
put_first us vs v p w t t' s a e at wide same =
    put_as us vs (start v) (field 11 t) (row t s v) (sym (append-nil (field 11 t)) ∙ ap (λ ys. field 11 t ++ ys) (sym (ap (λ n. marks s n) e ∙ marks_none s))) (rw (at, wide, same) at a)

-- and of one that has one
pub put_row : (us vs ws : List ℕ) (v p w t t' q n x s s' : ℕ) → Put vs q (field n x) ws → Put us p (field w t') vs → q ≡ start v + 11 → n ≡ v → field v x ≡ marks s' v → s' ≡ s → p ≡ start v → w ≡ 11 → t' ≡ t → Put us (start v) (row t s v) ws
put_row us vs ws v p w t t' q n x s s' b a behind long bits is at wide same =
    put_as us ws (start v) (field 11 t ++ field v x) (row t s v) (ap (λ ys. field 11 t ++ ys) (bits ∙ ap (λ z. marks z v) is))
    (put_then us vs ws (start v) (start v + 11) (field 11 t) (field v x) (ap (λ n. start v + n) (sym (length-field 11 t))) (rw (at, wide, same) at a) (rw (behind, long) at b))

pub no_rows : (us ts : List ℕ) (ps : List JobSet) → 33 ≤ length us → Put us 33 (rows ts ps 0) us
unfolding rows
no_rows us ts ps l = put_none us 33 l

pub one_row : (us vs ws ts : List ℕ) (ps : List JobSet) (v : ℕ) → Put us 33 (rows ts ps v) vs → Put vs (start v) (row (time_at ts v) (preds_at ps v) v) ws → Put us 33 (rows ts ps (v + 1)) ws
unfolding rows
one_row us vs ws ts ps v a b =
    rw (add-one v) (put_then us vs ws 33 (start v) (rows ts ps v) (row (time_at ts v) (preds_at ps v) v) (sym (length-rows ts ps v)) a b)

pub both_parts : (us vs ws : List ℕ) (g : Graph) → Put us 0 (head g.jobs g.crews g.layover) vs → Put vs 33 (rows g.times g.preds g.jobs) ws → Put us 0 (fields_of g) ws
unfolding fields
both_parts us vs ws g a b =
    put_then us vs ws 0 33 (head g.jobs g.crews g.layover) (rows g.times g.preds g.jobs) (let l = length-head g.jobs g.crews g.layover in omega arith) a b

-- ---- the fields are bits

pub bits_rows : (ts : List ℕ) (ps : List JobSet) (n : ℕ) → Bits (rows ts ps n)
unfolding rows
bits_rows ts ps zero i = omega arith
bits_rows ts ps (suc n) i =
    bits_append (rows ts ps n) (row (time_at ts n) (preds_at ps n) n) (bits_rows ts ps n)
    (bits_append (field 11 (time_at ts n)) (marks (preds_at ps n) n) (bits_field 11 (time_at ts n)) (marks_small (preds_at ps n) n)) i

pub bits_head : (n m d : ℕ) → Bits (head n m d)
unfolding head
bits_head n m d =
    bits_append (field 4 1) (field 7 n ++ (field 5 m ++ field 17 d)) (bits_field 4 1)
    (bits_append (field 7 n) (field 5 m ++ field 17 d) (bits_field 7 n) (bits_append (field 5 m) (field 17 d) (bits_field 5 m) (bits_field 17 d)))

pub bits_fields : (g : Graph) → Bits (fields_of g)
unfolding fields
bits_fields g = bits_append (head g.jobs g.crews g.layover) (rows g.times g.preds g.jobs) (bits_head g.jobs g.crews g.layover) (bits_rows g.times g.preds g.jobs)

-- ---- the whole card

-- the fields, written over zeros: the bytes are the card, and what stands behind it is as it was
pub whole_card : (g : Graph) (old zeroed new : List ℕ) (k : ℕ) → k ≡ length (card g) → k ≤ length old → Bytes zeroed → Bytes new → zeroed ≡ replicate k 0 ++ drop k old
    → Put (bits_of zeroed) 0 (fields_of g) (bits_of new) → new ≡ card g ++ drop k old
unfolding filled
whole_card g old zeroed new k count room small_zeroed small_new is put =
    let behind : drop k zeroed ≡ drop k old = ap (λ ys. drop k ys) is ∙ drop_at (replicate k 0) (drop k old) k (length_zeros k) in
    let small_old : Bytes (drop k old) = rw behind at (bytes_drop k zeroed small_zeroed) in
    let us = fields_of g in
    let len : length us ≡ start g.jobs = length_fields g in
    let many : k ≡ (length us + 7) / 8 = count ∙ length-bytes us in
    let zeros : bits_of zeroed ≡ replicate (8 * k) 0 ++ bits_of (drop k old) = ap bits_of is ∙ bits_join (replicate k 0) (drop k old) ∙ ap (λ ys. ys ++ bits_of (drop k old)) (bits_zero_bytes k) in
    let fill = whole (length us) - length us in
    let rest : drop (length us) (bits_of zeroed) ≡ replicate fill 0 ++ bits_of (drop k old) =
    ap (λ ys. drop (length us) ys) zeros ∙ drop-append-le (length us) (replicate (8 * k) 0) (bits_of (drop k old)) (let l = length_zeros (8 * k) in omega arith)
    ∙ ap (λ ys. ys ++ bits_of (drop k old)) (drop-replicate (length us) (8 * k) 0 ∙ ap (λ n. replicate n 0) (omega arith)) in
    let same : bits_of new ≡ bits_of (card g ++ drop k old) =
    put.bits ∙ ap (λ n. us ++ drop n (bits_of zeroed)) (zero-add (length us)) ∙ ap (λ ys. us ++ ys) rest ∙ sym (append_assoc us (replicate fill 0) (bits_of (drop k old)))
    ∙ ap (λ ys. ys ++ bits_of (drop k old)) (sym (bytes_hold_bits us (bits_fields g))) ∙ sym (bits_join (card g) (drop k old)) in
    bits_give_bytes new (card g ++ drop k old) small_new (bytes_append (card g) (drop k old) (small_bytes us (bits_fields g)) small_old) same

-- what the functions name that count the bytes
pub ruleset bytes = (length-card, start_range)

-- how far the head and the rows of the jobs reach
pub job_fits : (old now : List ℕ) (v n m : ℕ) → start n ≤ 8 * length old → length now ≡ length old → m ≡ n → v < m → start v + (11 + v) ≤ 8 * length now
job_fits old now v n m room same e l = let far = start_mono v n (omega arith) in omega arith

pub rows_start : (bs ts : List ℕ) (ps : List JobSet) (n : ℕ) → start n ≤ 8 * length bs → Put (bits_of bs) 33 (rows ts ps 0) (bits_of bs)
rows_start bs ts ps n room = no_rows (bits_of bs) ts ps (let r = start_is n in let l = length-bits bs in omega arith)

pub head_fits : (bs : List ℕ) (g : Graph) → length (card g) ≤ length bs → 33 ≤ 8 * length bs
head_fits bs g room = let r = (start_range g.jobs g.few_jobs).0 in let n = length-card g in omega arith

pub rows_fit : (bs : List ℕ) (g : Graph) → length (card g) ≤ length bs → start g.jobs ≤ 8 * length bs
rows_fit bs g room = let n = length-card g in omega arith

pub ruleset of_card = (head_fits, rows_fit)
