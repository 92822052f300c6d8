-- The exact totals, passed run by run, and the bytes put in order at the end.
use mathlib.Core.Path.{◌≡◌, refl, sym, ap, ◌∙◌}
use mathlib.Core.List.{List, [], ◌∷◌, ◌++◌}
use Prim.Native.Nat.{ℕ, zero, suc, ◌+◌, ◌*◌, ◌/◌, ◌%◌, ◌^◌, ◌≤◌, ◌<◌}
use native.Mathlib.Nat.{zero-add, add-zero, add_comm, mul-zero, mul-suc, add_assoc, suc-mul, add-mul-mod_self_left}
use native.Mathlib.Omega.{arith}
use lib.ListN.{length, take, drop, get_or, length-take, length-drop, take-append-drop}
use lib.Seq.{take-add, drop-drop}
use Rattle.std.specs.Simd.{first_chunks}
use Rattle.rules.specs.Bytes.{part}
use Rattle.rules.specs.Checksum.{words, total, running_totals, folded, checksum}
use Rattle.rules.proofs.Checksum.{checksum_less}
use Rattle.checksum.specs.Passing.{low_words, After}

-- ---- the totals of two runs

pub low-append : (xs ys : List ℕ) → length xs % 2 ≡ 0 → total (low_words (xs ++ ys)) ≡ total (low_words xs) + total (low_words ys)
low-append [] ys h = omega arith
low-append (x ∷ []) ys h = absurd (omega arith)
low-append (x ∷ y ∷ xs) ys h = omega (arith, low-append xs ys (omega arith))

pub running-append : (xs ys : List ℕ) (f : ℕ) → length xs % 2 ≡ 0
    → total (running_totals f (low_words (xs ++ ys))) ≡ total (running_totals f (low_words xs)) + total (running_totals (f + total (low_words xs)) (low_words ys))
running-append [] ys f h = rw add-zero (omega arith)
running-append (x ∷ []) ys f h = absurd (omega arith)
running-append (x ∷ y ∷ xs) ys f h =
    let e : f + (x + y * 256 + total (low_words xs)) ≡ f + (x + y * 256) + total (low_words xs) = omega arith in
    rw e (omega (arith, running-append xs ys (f + (x + y * 256)) (omega arith)))

-- One run behind another.
pub after_both : (xs ys : List ℕ) (f g a b x y : ℕ) → length xs % 2 ≡ 0 → After xs f g a b → After ys a b x y → After (xs ++ ys) f g x y
after_both xs ys f g a b x y even before behind = record {
  first_same = omega (arith, before.first_same, behind.first_same, low-append xs ys even);
  second_same = omega (arith, before.second_same, rw before.first_same at behind.second_same, running-append xs ys f even);
}

pub even_front : (s : List ℕ) (at : ℕ) → at ≤ length s → at % 2 ≡ 0 → length (take at s) % 2 ≡ 0
even_front s at within even = let e : length (take at s) ≡ at = rw length-take (omega arith) in rw e even

-- What is left behind an even number of bytes.
pub after_rest : (s : List ℕ) (at f g a b x y : ℕ) → at ≤ length s → at % 2 ≡ 0 → After (take at s) f g a b → After (drop at s) a b x y → After s f g x y
after_rest s at f g a b x y within even before rest = rw (take-append-drop at s) at (after_both (take at s) (drop at s) f g a b x y (even_front s at within even) before rest)

-- ---- runs of n

chunk_at : (n k i : ℕ) (s : List ℕ) → i < k → get_or (first_chunks n k s) i [] ≡ take n (drop (n * i) s)
chunk_at n zero i s h = absurd (omega arith)
chunk_at n (suc k) zero s h = rw (mul-zero n)
chunk_at n (suc k) (suc i) s h = chunk_at n k i (drop n s) (omega arith) ∙ rw (drop-drop, mul-suc n i, add_comm n (n * i))

module _ (n : ℕ) (s : List ℕ) (runs : List (List ℕ)) (i next : ℕ) (cut : runs ≡ first_chunks n (length s / n) s) (turn : i < length s / n) (more : next ≡ n * i + n) (room : next ≤ length s) where
  run_is : get_or runs i [] ≡ take n (drop (n * i) s)
  run_is = rw cut (chunk_at n (length s / n) i s turn)

  pub run_length : length (get_or runs i []) ≡ n
  run_length = rw (run_is, length-take, length-drop) (omega arith)

  pub run_joined : take next s ≡ take (n * i) s ++ get_or runs i []
  run_joined = rw (more, take-add (n * i) n s, run_is)

  -- A run more.
  pub run_more : (f g a b x y : ℕ) → n * i % 2 ≡ 0 → After (take (n * i) s) f g a b → After (get_or runs i []) a b x y → After (take next s) f g x y
  run_more f g a b x y even before run = rw run_joined (after_both (take (n * i) s) (get_or runs i []) f g a b x y (even_front s (n * i) (omega arith) even) before run)

-- ---- words

word_run : (run : List ℕ) (a b : ℕ) → length run ≡ 2 → After run a b (a + (get_or run 0 0 + get_or run 1 0 * 256)) (b + (a + (get_or run 0 0 + get_or run 1 0 * 256)))
word_run [] a b h = absurd (omega arith)
word_run (x ∷ []) a b h = absurd (omega arith)
word_run (x ∷ y ∷ []) a b h = record { first_same = omega arith; second_same = omega arith }
word_run (x ∷ y ∷ z ∷ s) a b h = absurd (omega arith)

byte_run : (run : List ℕ) (a b : ℕ) → length run ≡ 1 → After run a b (a + get_or run 0 0) (b + (a + get_or run 0 0))
byte_run [] a b h = absurd (omega arith)
byte_run (x ∷ []) a b h = record { first_same = omega arith; second_same = omega arith }
byte_run (x ∷ y ∷ s) a b h = absurd (omega arith)

-- A word more, its low byte first.
pub word_more : (s : List ℕ) (ws : List (List ℕ)) (i f g a b w x y : ℕ) → ws ≡ first_chunks 2 (length s / 2) s → i < length s / 2
    → After (take (2 * i) s) f g a b → w ≡ get_or (get_or ws i []) 0 0 + get_or (get_or ws i []) 1 0 * 256 → (x ≡ a + w) × (y ≡ b + (a + w)) → After (take (2 * (i + 1)) s) f g x y
word_more s ws i f g a b w x y cut turn before e d =
    let long = run_length 2 s ws i (2 * (i + 1)) cut turn (omega arith) (omega arith) in
    run_more 2 s ws i (2 * (i + 1)) cut turn (omega arith) (omega arith) f g a b x y (omega arith) before (rw (d.0, d.1, e) (word_run _ a b long))

-- A last byte.
pub byte_more : (s rest : List ℕ) (i f g a b w x y : ℕ) → rest ≡ drop (length s / 2 * 2) s → i ≡ length s / 2 → length rest ≡ 1
    → After (take (2 * i) s) f g a b → w ≡ get_or rest 0 0 → (x ≡ a + w) × (y ≡ b + (a + w)) → After s f g x y
byte_more s rest i f g a b w x y cut turns long before e d =
    let same : length s / 2 * 2 ≡ 2 * i = omega arith in
    after_rest s (2 * i) f g a b x y (omega arith) (omega arith) before (rw (← same, ← cut, d.0, d.1, e) (byte_run rest a b long))

-- ---- rows from sums that stood before them

-- A first sum counts once in each running total.
running_from : (s : List ℕ) (words f g : ℕ) → 2 * words ≡ length s
    → total (running_totals (f + g) (low_words s)) ≡ words * f + total (running_totals g (low_words s))
running_from [] zero f g h = omega arith
running_from [] (suc k) f g h = absurd (omega arith)
running_from (x ∷ []) k f g h = absurd (omega arith)
running_from (x ∷ y ∷ s) zero f g h = absurd (omega arith)
running_from (x ∷ y ∷ s) (suc k) f g h =
    rw (suc-mul k f, add_assoc f g (x + y * 256)) (omega (arith, running_from s k f (g + (x + y * 256)) (omega arith)))

pub after_from : (s : List ℕ) (words f g x y : ℕ) → 2 * words ≡ length s → After s 0 0 x y → After s f g (f + x) (g + words * f + y)
after_from s words f g x y half after = record {
  first_same = omega (arith, after.first_same);
  second_same = omega (arith, after.second_same, rw add-zero at (running_from s words f 0 half));
}

-- Whole rows from nothing on, and what is left behind them.
pub part_after : (s whole rest : List ℕ) (f g x y p q a b : ℕ) → whole ≡ take (length s / 16 * 16) s → rest ≡ drop (length s / 16 * 16) s → After whole 0 0 x y
    → (p ≡ f + x) × (q ≡ g + length whole / 2 * f + y) → After rest p q a b → After s f g a b
part_after s whole rest f g x y p q a b front back rows sums few =
    let even = even_front s (length s / 16 * 16) (omega arith) (omega arith) in
    let half : 2 * (length whole / 2) ≡ length whole = omega (arith, rw (← front) at even) in
    after_rest s (length s / 16 * 16) f g (f + x) (g + length whole / 2 * f + y) a b (omega arith) (omega arith) (rw (← front) (after_from whole (length whole / 2) f g x y half rows)) (rw (← back, ← sums.0, ← sums.1) few)

-- ---- folding

-- The same remainder.
folded_more : (x k : ℕ) → 0 < x → folded (x + 65535 * k) ≡ folded x
folded_more zero k h = absurd (omega arith)
folded_more (suc x) k h =
    let e : suc x + 65535 * k ≡ suc (x + 65535 * k) = omega arith in
    rw (e, add-mul-mod_self_left x 65535 k)

folded_add : (x k : ℕ) → folded (folded x + k) ≡ folded (x + k)
folded_add zero k = refl
folded_add (suc x) k =
    let e : x % 65535 + 1 + k + 65535 * (x / 65535) ≡ suc x + k = omega arith in
    sym (folded_more (x % 65535 + 1 + k) (x / 65535) (omega arith)) ∙ rw e

-- x is y, and 65,535 some times over.
record Shifted (x y : ℕ) : Type 0 where
  by : ℕ
  equal : x ≡ y + 65535 * by

shifted : (f q : ℕ) (ws : List ℕ) → Shifted (total (running_totals (f + 65535 * q) ws)) (total (running_totals f ws))
shifted f q [] = record { by = 0; equal = omega arith }
shifted f q (w ∷ ws) =
    let e : f + 65535 * q + w ≡ f + w + 65535 * q = omega arith in
    let t = shifted (f + w) q ws in
    record { by = q + t.by; equal = rw e (omega arith) }

folded_running : (x b : ℕ) (ws : List ℕ) → folded (b + total (running_totals (folded x) ws)) ≡ folded (b + total (running_totals x ws))
folded_running zero b ws = refl
folded_running (suc x) b [] = refl
folded_running (suc x) b (w ∷ ws) =
    let e : suc x ≡ x % 65535 + 1 + 65535 * (x / 65535) = omega arith in
    let t = shifted (x % 65535 + 1) (x / 65535) (w ∷ ws) in
    let d : b + total (running_totals (x % 65535 + 1) (w ∷ ws)) + 65535 * t.by ≡ b + total (running_totals (suc x) (w ∷ ws)) = rw e (omega (arith, t.equal)) in
    sym (folded_more (b + total (running_totals (x % 65535 + 1) (w ∷ ws))) t.by (omega arith)) ∙ ap folded d

-- The sums that the bytes lead to.
pub record Folded (bytes : List ℕ) (first second : ℕ) : Type 0 where
  pub first_same : first ≡ folded (total (low_words bytes))
  pub second_same : second ≡ folded (total (running_totals 0 (low_words bytes)))

pub folded_none : Folded [] 0 0
folded_none = record { first_same = refl; second_same = refl }

-- More bytes, from the sums on: what was folded before leaves the same remainders.
pub folded_both : (xs ys : List ℕ) (a b x y u v : ℕ) → length xs % 2 ≡ 0 → Folded xs a b → After ys a b x y → u ≡ folded x → v ≡ folded y → Folded (xs ++ ys) u v
folded_both xs ys a b x y u v even before behind eu ev =
    let f = total (low_words xs) in
    let g = total (running_totals 0 (low_words xs)) in
    let rest = total (running_totals (folded f) (low_words ys)) in
    record {
      first_same = eu ∙ rw (behind.first_same, before.first_same, low-append xs ys even) (folded_add f (total (low_words ys)));
      second_same = ev ∙ rw (behind.second_same, before.first_same, before.second_same, running-append xs ys 0 even) (folded_add g rest ∙ folded_running f g (low_words ys) ∙ rw (zero-add f));
    }

pub folded_turn : (s : List ℕ) (runs : List (List ℕ)) (i a b x y u v : ℕ) → runs ≡ first_chunks 4096 (length s / 4096) s → i < length s / 4096
    → Folded (take (4096 * i) s) a b → After (get_or runs i []) a b x y → (u ≡ folded x) × (v ≡ folded y) → Folded (take (4096 * (i + 1)) s) u v
folded_turn s runs i a b x y u v cut turn before run e =
    rw (run_joined 4096 s runs i (4096 * (i + 1)) cut turn (omega arith) (omega arith)) (folded_both (take (4096 * i) s) (get_or runs i []) a b x y u v (even_front s (4096 * i) (omega arith) (omega arith)) before run e.0 e.1)

-- ---- the bytes put in order

-- x is a total of the words, and y the same total of the words read low byte first.
record Turned (x y : ℕ) : Type 0 where
  by : ℕ
  few : by ≤ x
  equal : 256 * y ≡ x + 65535 * by

turned-words : (s : List ℕ) → Turned (total (words s)) (total (low_words s))
turned-words [] = record { by = 0; few = omega arith; equal = omega arith }
turned-words (x ∷ []) = record { by = 0; few = omega arith; equal = omega arith }
turned-words (x ∷ y ∷ s) =
    let t = turned-words s in record { by = y + t.by; few = omega arith; equal = omega arith }

turned_totals : (s : List ℕ) (x y : ℕ) → Turned x y → Turned (total (running_totals x (words s))) (total (running_totals y (low_words s)))
turned_totals [] x y u = record { by = 0; few = omega arith; equal = omega arith }
turned_totals (p ∷ []) x y u = record { by = u.by; few = omega arith; equal = omega arith }
turned_totals (p ∷ q ∷ s) x y u =
    let v : Turned (x + (p * 256 + q)) (y + (p + q * 256)) = record { by = u.by + q; few = omega arith; equal = omega arith } in
    let t = turned_totals s (x + (p * 256 + q)) (y + (p + q * 256)) v in
    record { by = v.by + t.by; few = omega arith; equal = omega arith }

turned : (x y : ℕ) → Turned x y → folded (256 * folded y) ≡ folded x
turned x zero t = let e : x ≡ 0 = omega arith in rw e
turned x (suc y) t =
    let d : 256 * (y % 65535 + 1) + 65535 * (256 * (y / 65535)) ≡ x + 65535 * t.by = omega arith in
    sym (folded_more (256 * (y % 65535 + 1)) (256 * (y / 65535)) (omega arith)) ∙ rw d (folded_more x t.by (omega arith))

pub answer : (s : List ℕ) (a b r : ℕ) → Folded s a b → r ≡ folded (256 * b) * 65536 + folded (256 * a) → (r ≡ checksum s) × (r < 2 ^ 32)
unfolding checksum
answer s a b r sums e =
    let none : Turned 0 0 = record { by = 0; few = omega arith; equal = omega arith } in
    let same : r ≡ checksum s = e ∙ rw (sums.first_same, sums.second_same, turned _ _ (turned-words s), turned _ _ (turned_totals s 0 0 none)) in
    (same, omega (arith, checksum_less s))

pub sixteen_answer : (s : List ℕ) (at m n f g x y a b u v r : ℕ) → at + 16 ≤ length s → m ≡ 8 → n ≡ 8 → After (take m (drop at s)) 0 0 f g → After (take n (drop (at + 8) s)) 0 0 x y
    → (a ≡ f + x) × (b ≡ g + 4 * f + y) → (u ≡ folded a) × (v ≡ folded b) → r ≡ folded (256 * v) * 65536 + folded (256 * u) → (r ≡ checksum (part s at 16)) × (r < 2 ^ 32)
sixteen_answer s at m n f g x y a b u v r room em en left right sums e d =
    let long : length (take 8 (drop (at + 8) s)) ≡ 8 = rw (length-take, length-drop) (omega arith) in
    let even : length (take 8 (drop at s)) % 2 ≡ 0 = rw (length-take, length-drop) (omega arith) in
    let behind = after_from (take 8 (drop (at + 8) s)) 4 f g x y (omega (arith, long)) (rw en at right) in
    let both = after_both (take 8 (drop at s)) (take 8 (drop (at + 8) s)) 0 0 f g (f + x) (g + 4 * f + y) even (rw em at left) behind in
    let whole : take 8 (drop at s) ++ take 8 (drop (at + 8) s) ≡ part s at 16 = rw (← drop-drop) (sym (take-add 8 8 (drop at s))) in
    answer (part s at 16) u v r (folded_both [] (part s at 16) 0 0 a b u v refl folded_none (rw (← whole, sums.0, sums.1) both) e.0 e.1) d

pub any_answer : (s rest : List ℕ) (i a b x y u v r : ℕ) → rest ≡ drop (length s / 4096 * 4096) s → i ≡ length s / 4096 → Folded (take (4096 * i) s) a b → After rest a b x y
    → (u ≡ folded x) × (v ≡ folded y) → r ≡ folded (256 * v) * 65536 + folded (256 * u) → (r ≡ checksum s) × (r < 2 ^ 32)
any_answer s rest i a b x y u v r back turns before after e d =
    let same : length s / 4096 * 4096 ≡ 4096 * i = omega arith in
    let all = folded_both (take (4096 * i) s) (drop (4096 * i) s) a b x y u v (even_front s (4096 * i) (omega arith) (omega arith)) before (rw (← same, ← back) after) e.0 e.1 in
    answer s u v r (rw (take-append-drop (4096 * i) s) at all) d
