-- Eight lanes side by side.
use mathlib.Core.Path.{◌≡◌, refl, sym, ap, ◌∙◌}
use mathlib.Core.List.{List, [], ◌∷◌, ◌++◌, map}
use Prim.Native.Nat.{ℕ, zero, suc, ◌+◌, ◌*◌, ◌-◌, ◌/◌, ◌%◌, ◌^◌, ◌≤◌, ◌<◌}
use native.Mathlib.Nat.{add-mul, mul-le-mul}
use native.Mathlib.Omega.{arith}
use lib.ListN.{length}
use lib.Lanes.{sum_l, products, Each1, Each2, Steps, fold_l, zip2, number_l, digits_l}
use mir.Syntax.{w8, w32, w64}
use mir.Val.{Fits}
use Rattle.std.proofs.lemmas.Simd.{Each1-weaker, Each1-zip2, Each2-of, sum_bound, sum_fits, sum-zip2, fold-sum, length-zip2}
use Rattle.rules.specs.Checksum.{total, running_totals}
use Rattle.checksum.specs.Passing.{low_words, places, weighted}
use Rattle.checksum.proofs.Laws.{low-append, running-append}

-- ---- a row's words

pub row_words : (n : ℕ) (row : List ℕ) → length row ≡ 2 * n → Each1 (Fits w8) row → digits_l 65536 n (number_l 256 row) ≡ low_words row
row_words zero [] h b = refl
row_words zero (x ∷ row) h b = absurd (omega arith)
row_words (suc n) [] h b = absurd (omega arith)
row_words (suc n) (x ∷ []) h b = absurd (omega arith)
row_words (suc n) (x ∷ y ∷ row) h b =
    let rest = number_l 256 row in
    let low : (x + 256 * (y + 256 * rest)) % 65536 ≡ x + y * 256 = omega (arith, b.0.fits, b.1.0.fits) in
    let high : (x + 256 * (y + 256 * rest)) / 65536 ≡ rest = omega (arith, b.0.fits, b.1.0.fits) in
    rw (low, high, row_words n row (omega arith) b.1.1)

pub words_small : (n x : ℕ) → Each1 (λ w. w < 65536) (digits_l 65536 n x)
words_small zero x = tt
words_small (suc n) x = (omega arith, words_small n (x / 65536))

-- ---- what the lanes come to

same : (xs : List ℕ) → map (λ x. x) xs ≡ xs
same [] = refl
same (x ∷ xs) = ap (λ t. x ∷ t) (same xs)

pub lanes_sum : (xs : List ℕ) → (length xs ≡ 8) × Each1 (Fits w32) xs → sum_l xs ≤ 2 ^ 35
lanes_sum xs lanes = omega (arith, lanes.0, sum_bound (2 ^ 32) xs (Each1-weaker (Fits w32) (λ a. a ≤ 2 ^ 32) (λ a fits. omega (arith, fits.fits)) xs lanes.1))

sum_is : (xs : List ℕ) → fold_l (λ s x. s + x) 0 (map (λ x. x) xs) ≡ sum_l xs
sum_is xs = rw (same xs) (omega (arith, fold-sum 0 xs))

pub sum_room : (xs : List ℕ) → (length xs ≡ 8) × Each1 (Fits w32) xs → Steps (λ s x. Fits w64 (s + x)) (λ s x. s + x) 0 (map (λ x. x) xs)
sum_room xs lanes = rw (same xs) (sum_fits w64 0 xs (omega (arith, lanes_sum xs lanes)))

pub times_room : (xs : List ℕ) → (length xs ≡ 8) × Each1 (Fits w32) xs → Fits w64 (8 * fold_l (λ s x. s + x) 0 (map (λ x. x) xs))
times_room xs lanes = rw (sum_is xs) (record { fits = omega (arith, lanes_sum xs lanes) })

product_fits : (a k : ℕ) → Fits w32 a → k ≤ 7 → Fits w64 (a * k)
product_fits a k fits h =
    let least : a ≤ 2 ^ 32 = omega (arith, fits.fits) in
    let e : a * k ≤ 2 ^ 32 * 7 = mul-le-mul least h in
    record { fits = omega arith }

pub weights_room : (xs : List ℕ) → Each1 (Fits w32) xs → Each2 (λ a k. Fits w64 (a * k)) (map (λ x. x) xs) places
weights_room xs lanes = rw (same xs) (Each2-of (Fits w32) (λ k. k ≤ 7) (λ a k. Fits w64 (a * k)) product_fits xs places lanes (search arith))

module _ (xs ys : List ℕ) (lanes : (length ys ≡ 8) × Each1 (Fits w32) ys) (least : weighted xs ≤ 8 * sum_l ys) where
  pub weights_sum : Steps (λ s x. Fits w64 (s + x)) (λ s x. s + x) 0 (zip2 (λ a k. a * k) (map (λ x. x) xs) places)
  weights_sum = rw (same xs) (sum_fits w64 0 (products xs places) (omega (arith, lanes_sum ys lanes, least)))

  weights_are : fold_l (λ s x. s + x) 0 (zip2 (λ a k. a * k) (map (λ x. x) xs) places) ≡ weighted xs
  weights_are = rw (same xs) (omega (arith, fold-sum 0 (products xs places)))

  pub less_room : fold_l (λ s x. s + x) 0 (zip2 (λ a k. a * k) (map (λ x. x) xs) places) ≤ 8 * fold_l (λ s x. s + x) 0 (map (λ x. x) ys)
  less_room = rw (weights_are, sum_is ys) least

  pub gathered : (fold_l (λ s x. s + x) 0 (map (λ x. x) xs) ≡ sum_l xs)
      × (8 * fold_l (λ s x. s + x) 0 (map (λ x. x) ys) - fold_l (λ s x. s + x) 0 (zip2 (λ a k. a * k) (map (λ x. x) xs) places) + weighted xs ≡ 8 * sum_l ys)
  gathered = (sum_is xs, rw (weights_are, sum_is ys) (omega (arith, least)))

-- ---- a row more

total_is : (ws : List ℕ) → total ws ≡ sum_l ws
total_is [] = refl
total_is (w ∷ ws) = ap (λ t. w + t) (total_is ws)

weighted_by : (xs ys ks : List ℕ) → length xs ≡ length ys → sum_l (products (zip2 (λ x y. x + y) xs ys) ks) ≡ sum_l (products xs ks) + sum_l (products ys ks)
weighted_by [] [] ks h = refl
weighted_by [] (y ∷ ys) ks h = absurd (omega arith)
weighted_by (x ∷ xs) [] ks h = absurd (omega arith)
weighted_by (x ∷ xs) (y ∷ ys) [] h = refl
weighted_by (x ∷ xs) (y ∷ ys) (k ∷ ks) h = omega (arith, add-mul x y k, weighted_by xs ys ks (omega arith))

-- Each running total has the first sum, and a word counts in each that is not before its own.
running_is : (s : ℕ) (ws : List ℕ) → length ws ≡ 8 → total (running_totals s ws) + weighted ws ≡ 8 * (s + total ws)
running_is s [] h = absurd (omega arith)
running_is s (a ∷ []) h = absurd (omega arith)
running_is s (a ∷ b ∷ []) h = absurd (omega arith)
running_is s (a ∷ b ∷ c ∷ []) h = absurd (omega arith)
running_is s (a ∷ b ∷ c ∷ d ∷ []) h = absurd (omega arith)
running_is s (a ∷ b ∷ c ∷ d ∷ e ∷ []) h = absurd (omega arith)
running_is s (a ∷ b ∷ c ∷ d ∷ e ∷ f ∷ []) h = absurd (omega arith)
running_is s (a ∷ b ∷ c ∷ d ∷ e ∷ f ∷ g ∷ []) h = absurd (omega arith)
running_is s (a ∷ b ∷ c ∷ d ∷ e ∷ f ∷ g ∷ i ∷ []) h = omega arith
running_is s (a ∷ b ∷ c ∷ d ∷ e ∷ f ∷ g ∷ i ∷ j ∷ ws) h = absurd (omega arith)

-- The lanes' totals of the rows in some bytes, as many as turns. A word of the lane k counts k times less than eight times what it counts
-- in seconds.
pub record Lanes (bytes : List ℕ) (turns : ℕ) (firsts seconds : List ℕ) : Type 0 where
  pub small : Each1 (λ a. a ≤ 65535 * turns) firsts
  pub great : Each1 (λ b. b ≤ 16776960 * turns) seconds
  pub first : sum_l firsts ≡ total (low_words bytes)
  pub second : total (running_totals 0 (low_words bytes)) + weighted firsts ≡ 8 * sum_l seconds

module _ (bytes : List ℕ) (turns : ℕ) (firsts seconds : List ℕ) (lanes : Lanes bytes turns firsts seconds) (ws : List ℕ) (words : Each1 (λ w. w < 65536) ws) (within : turns < 256) where
  pub firsts_room : Each2 (λ a w. Fits w32 (a + w)) firsts ws
  firsts_room = Each2-of (λ a. a ≤ 65535 * turns) (λ w. w < 65536) (λ a w. Fits w32 (a + w)) (λ a w h k. record { fits = omega arith }) firsts ws lanes.small words

  firsts_small : Each1 (λ a. a ≤ 65535 * (turns + 1)) (zip2 (λ a w. a + w) firsts ws)
  firsts_small = Each1-zip2 (λ a w. a + w) (λ a. a ≤ 65535 * (turns + 1)) firsts ws (Each2-of (λ a. a ≤ 65535 * turns) (λ w. w < 65536) (λ a w. a + w ≤ 65535 * (turns + 1)) (λ a w h k. omega arith) firsts ws lanes.small words)

  pub seconds_room : Each2 (λ b a. Fits w32 (b + a)) seconds (zip2 (λ a w. a + w) firsts ws)
  seconds_room = Each2-of (λ b. b ≤ 16776960 * turns) (λ a. a ≤ 65535 * (turns + 1)) (λ b a. Fits w32 (b + a)) (λ b a h k. record { fits = omega arith }) seconds (zip2 (λ a w. a + w) firsts ws) lanes.great firsts_small

  seconds_great : Each1 (λ b. b ≤ 16776960 * (turns + 1)) (zip2 (λ b a. b + a) seconds (zip2 (λ a w. a + w) firsts ws))
  seconds_great = Each1-zip2 (λ b a. b + a) (λ b. b ≤ 16776960 * (turns + 1)) seconds (zip2 (λ a w. a + w) firsts ws) (Each2-of (λ b. b ≤ 16776960 * turns) (λ a. a ≤ 65535 * (turns + 1)) (λ b a. b + a ≤ 16776960 * (turns + 1)) (λ b a h k. omega arith) seconds (zip2 (λ a w. a + w) firsts ws) lanes.great firsts_small)

  -- A row more, with a word for each lane.
  pub lanes_turn : (row next : List ℕ) → length firsts ≡ 8 → length seconds ≡ 8 → length ws ≡ 8 → ws ≡ low_words row → length bytes % 2 ≡ 0 → next ≡ bytes ++ row
      → Lanes next (turns + 1) (zip2 (λ a w. a + w) firsts ws) (zip2 (λ b a. b + a) seconds (zip2 (λ a w. a + w) firsts ws))
  lanes_turn row next eight eight_too long are even joined =
      let sums = zip2 (λ a w. a + w) firsts ws in
      let fit : length firsts ≡ length ws = eight ∙ sym long in
      let first : sum_l sums ≡ sum_l firsts + sum_l ws = sum-zip2 firsts ws fit in
      let low : total (low_words next) ≡ total (low_words bytes) + total ws = rw (joined, are) (low-append bytes row even) in
      let running : total (running_totals 0 (low_words next)) ≡ total (running_totals 0 (low_words bytes)) + total (running_totals (0 + total (low_words bytes)) ws) = rw (joined, are) (running-append bytes row 0 even) in
      record {
        small = firsts_small;
        great = seconds_great;
        first = omega (arith, first, low, lanes.first, total_is ws);
        second = omega (arith, first, running, running_is (0 + total (low_words bytes)) ws long, lanes.first, lanes.second, total_is ws, weighted_by firsts ws places fit, sum-zip2 seconds sums (eight_too ∙ sym (length-zip2 (λ a w. a + w) firsts ws fit ∙ eight)));
      }
