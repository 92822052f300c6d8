-- Decimal digits: how many there are, and those of a number found from the last to the first.
use mathlib.Core.Path.{◌≡◌, refl, sym, ap, ◌∙◌}
use mathlib.Core.Bool.{Bool, true, false, cond}
use mathlib.Core.List.{List, [], ◌∷◌, ◌++◌, append_assoc, append-nil}
use Prim.Native.Nat.{ℕ, zero, suc, ◌+◌, ◌*◌, ◌-◌, ◌/◌, ◌%◌, ◌^◌, ◌≤◌, ◌<◌, max}
use native.Mathlib.Nat.{add_assoc, pow-suc, one-le-pow, div-lt_iff_lt-mul, le-div_iff_mul-le}
use native.Mathlib.Numerals.{add-one}
use native.Mathlib.Omega.{arith}
use lib.Dec.{lit<, ltb}
use lib.ListN.{length, take, drop, set, length-append}
use lib.Seq.{length-take-le, drop_at}
use borrow.Author.Tests.{lt-ltb, le-ltb}
use Rattle.rules.specs.Bytes.{laid}
use Rattle.rules.specs.Listing.{decimal_within, decimal}
use Rattle.rules.proofs.Bytes.{length-laid, take-laid, laid-nothing, sets-laid}
use Rattle.listing.specs.Written.{digits_most}

-- ---- How many there are

-- A number from 10 ^ k on and below the next power has k + 1 digits.
many : (p k n : ℕ) → k ≤ p → (0 < k → 10 ^ k ≤ n) → n < 10 ^ suc k → length (decimal_within (suc p) n) ≡ suc k
unfolding decimal_within
many p zero n l low high = rw (lt-ltb n 10 high)
many zero (suc k) n l low high = absurd (omega arith)
many (suc p) (suc k) n l low high =
    let least : 10 ^ k * 10 ≤ n = rw (pow-suc 10 k) at (low (omega arith)) in
    let most : n < 10 ^ suc k * 10 = rw (pow-suc 10 (suc k)) at high in
    let big : 10 ≤ n = omega (arith, one-le-pow k 10 (lit< tt)) in
    let next = many p k (n / 10) (omega arith) (λ _. (le-div_iff_mul-le (lit< tt)).1 least) ((div-lt_iff_lt-mul (lit< tt)).1 most) in
    rw (le-ltb n 10 big, length-append, next) (omega arith)

pub decimal-many : (n k : ℕ) → k < 20 → 10 ^ k ≤ max n 1 → max n 1 < 10 * 10 ^ k → (k + 1 ≡ length (decimal n)) × (k + 1 ≤ digits_most)
decimal-many n zero few low high = (rw (many 19 0 n (omega arith) (λ h. absurd (omega arith)) (omega arith)), omega arith)
decimal-many n (suc k) few low high =
    let least : 10 ≤ 10 ^ suc k = omega (arith, one-le-pow k 10 (lit< tt), pow-suc 10 k) in
    (rw (many 19 (suc k) n (omega arith) (λ _. omega arith) (omega (arith, pow-suc 10 (suc k)))) (add-one (suc k)), omega arith)

-- ---- Digits found

-- A number whose last digits are found: those of what is left stand ahead of them. Of twenty places each digit found takes one,
-- and what is left never outgrows the others.
pub record DigitsLeft (n left : ℕ) (behind : List ℕ) : Type 0 where
  pub places : ℕ
  pub kept : places + length behind ≡ 19
  pub fits : left < 10 ^ suc places
  pub all : decimal n ≡ decimal_within (suc places) left ++ behind

-- Twenty places hold every number of eight bytes.
left-start : (n : ℕ) → n < 2 ^ 64 → DigitsLeft n n []
left-start n h = record { places = 19; kept = refl; fits = omega arith; all = sym (append-nil (decimal n)) }

left_turn : {n left : ℕ} {behind : List ℕ} → DigitsLeft n left behind → 10 ≤ left → DigitsLeft n (left / 10) ((0x30 + left % 10) ∷ behind)
unfolding decimal_within
left_turn {n} {left} {behind} d h = go d.places d.kept d.fits d.all
  where
    go : (p : ℕ) → p + length behind ≡ 19 → left < 10 ^ suc p → decimal n ≡ decimal_within (suc p) left ++ behind
        → DigitsLeft n (left / 10) ((0x30 + left % 10) ∷ behind)
    go zero s f a = absurd (omega arith)
    go (suc p) s f a = record {
      places = p;
      kept = omega arith;
      fits = (div-lt_iff_lt-mul (lit< tt)).1 (rw (pow-suc 10 (suc p)) at f);
      all = a ∙ rw (le-ltb left 10 h) (append_assoc (decimal_within (suc p) (left / 10)) _ _);
    }

-- What is left has a digit.
some : (places n : ℕ) → 0 < length (decimal_within (suc places) n)
unfolding decimal_within
some places n = go (ltb n 10)
  where
    go : (b : Bool) → 0 < length (cond b ((0x30 + n) ∷ []) (decimal_within places (n / 10) ++ ((0x30 + n % 10) ∷ [])))
    go true = omega arith
    go false = simp length-append (omega arith)

-- Below ten, what is left is the first digit.
left_end : {n left : ℕ} {behind : List ℕ} → DigitsLeft n left behind → left < 10 → decimal n ≡ (0x30 + left) ∷ behind
unfolding decimal_within
left_end {n} {left} d h = d.all ∙ rw (lt-ltb left 10 h)

-- ---- Digits laid over bytes

drop-front : (xs : List ℕ) (at : ℕ) (ys : List ℕ) → at ≤ length xs → drop at (laid xs at ys) ≡ ys ++ drop (at + length ys) xs
unfolding laid
drop-front xs at ys h = rw append_assoc (drop_at (take at xs) (ys ++ drop (at + length ys) xs) at (length-take-le at xs h))

-- What is laid directly ahead is laid with it.
laid-ahead : (xs : List ℕ) (at : ℕ) (ys zs : List ℕ) → at + length ys + length zs ≤ length xs
    → laid (laid xs (at + length ys) zs) at ys ≡ laid xs at (ys ++ zs)
unfolding laid
laid-ahead xs at ys zs h =
    rw (take-laid xs (at + length ys) zs h at (omega arith), drop-front xs (at + length ys) zs (omega arith))
    (simp (length-append, append_assoc, add_assoc))

-- The digits that are found are laid from a place on; the next one comes ahead of it.
pub record DigitsLaid (before : List ℕ) (at n left place : ℕ) (now : List ℕ) : Type 0 where
  pub room : at + length (decimal n) ≤ length before
  pub behind : List ℕ
  pub digits : DigitsLeft n left behind
  pub there : place + length behind ≡ at + length (decimal n)
  pub bytes : now ≡ laid before place behind

pub laid-start : (before : List ℕ) (at n place : ℕ) → n < 2 ^ 64 → at + length (decimal n) ≤ length before → place ≡ at + length (decimal n)
    → DigitsLaid before at n n place before
laid-start before at n place h r e =
    record { room = r; behind = []; digits = left-start n h; there = omega arith; bytes = sym (laid-nothing before place) }

module _ {before : List ℕ} {at n left place : ℕ} {now : List ℕ} (l : DigitsLaid before at n left place now) where
  -- There is a place for it.
  pub laid-above : at < place
  laid-above =
      omega (arith, l.there, some l.digits.places left, simp length-append at (ap length l.digits.all))

  lies : place + length l.behind ≤ length before
  lies = omega (arith, l.room, l.there)

  pub laid-length : length now ≡ length before
  laid-length = ap length l.bytes ∙ length-laid before place l.behind lies

  -- One digit more.
  one : (v : ℕ) → set now (place - 1) v ≡ laid before (place - 1) (v ∷ l.behind)
  one v =
      let e : place ≡ place - 1 + 1 = omega (arith, laid-above) in
      sets-laid now (place - 1) (v ∷ []) (omega (arith, laid-length, lies))
      ∙ rw l.bytes (ap (λ (p : ℕ). laid (laid before p l.behind) (place - 1) (v ∷ [])) e ∙ laid-ahead before (place - 1) (v ∷ []) l.behind (omega (arith, lies)))

  pub laid_turn : 10 ≤ left → DigitsLaid before at n (left / 10) (place - 1) (set now (place - 1) (0x30 + left % 10))
  laid_turn h = record {
    room = l.room;
    behind = (0x30 + left % 10) ∷ l.behind;
    digits = left_turn l.digits h;
    there = omega (arith, l.there, laid-above);
    bytes = one (0x30 + left % 10);
  }

  pub laid_end : left < 10 → set now (place - 1) (0x30 + left) ≡ laid before at (decimal n)
  laid_end h =
      let a : decimal n ≡ (0x30 + left) ∷ l.behind = left_end l.digits h in
      let e : place - 1 ≡ at = omega (arith, l.there, ap length a) in
      one (0x30 + left) ∙ rw (e, a)
