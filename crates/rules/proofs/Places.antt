-- The laws of what goes by the form. They hold of every form, and outside of them nothing rests on a number that a form can move.
use mathlib.Core.Path.{◌≡◌, refl, sym, ◌∙◌}
use mathlib.Core.List.{List, ◌++◌}
use Prim.Native.Nat.{ℕ, zero, suc, ◌+◌, ◌*◌, ◌^◌, ◌≤◌, ◌<◌}
use native.Mathlib.Nat.{zero-add, suc-mul, add-mul, mul-le-mul_right}
use native.Mathlib.Omega.{arith}
use lib.ListN.{length, take, get_or}
use Rattle.rules.specs.Bytes.{part, number_bytes}
use Rattle.rules.specs.Layout.{
  limit,
  entry_limit,
  end_of,
  address_at,
  address_bytes,
  page_sum_at,
  page_sum_bytes,
  entry_sum_at,
  entry_width,
  entries_width,
  user_bytes,
  entry_count_at,
}
use Rattle.rules.specs.declared.Form.{Form}
use Rattle.rules.proofs.Bytes.{part_add, part-part, length-number_bytes, number-stands, value-number_bytes}

-- What lies within the first m bytes is read from them alone.
pub part-take : (xs : List ℕ) (m at n : ℕ) → at + n ≤ m → part (take m xs) at n ≡ part xs at n
part-take xs m at n h = part-part xs 0 m at n h ∙ rw zero-add

module _ (f : Form) where
  -- ---- ends

  -- An end is not below what ends there, and less than a page behind it.
  pub end-behind : (at size : ℕ) → at + size ≤ end_of f at size
  unfolding end_of
  end-behind at size = omega arith

  pub end-ordered : (at at' size size' : ℕ) → at ≤ at' → size ≤ size' → end_of f at size ≤ end_of f at' size'
  unfolding end_of
  end-ordered at at' size size' l m = omega arith

  pub end-near : (at size : ℕ) → end_of f at size ≤ at + size + f.page
  unfolding end_of
  end-near at size = omega arith

  -- ---- entries

  -- An entry's own checksum stands behind its two addresses.
  pub entry-least : 16 ≤ entry_sum_at f
  unfolding entry_sum_at
  entry-least = omega arith

  pub entry-most : entry_sum_at f ≤ 20
  unfolding entry_sum_at
  entry-most = omega arith

  -- Entry k starts behind the k ahead of it: entry 0 at the start, each behind the one before it, and all within.
  pub entries_none : entries_width f 0 ≡ 0
  unfolding entries_width
  entries_none = omega arith

  pub entries_next : (n : ℕ) → entries_width f (suc n) ≡ entries_width f n + entry_width f
  unfolding entries_width
  entries_next n = suc-mul n (entry_width f)

  pub entries-within : (k n : ℕ) → k < n → entries_width f k + entry_width f ≤ entries_width f n
  unfolding entries_width
  entries-within k n h = let m : suc k * entry_width f ≤ n * entry_width f = mul-le-mul_right (entry_width f) h in omega (arith, suc-mul k (entry_width f))

  pub entries-most : (n : ℕ) → n ≤ entry_limit → entries_width f n ≤ 24 * entry_limit
  unfolding entries_width entry_sum_at
  entries-most n h = omega arith

  pub entries_product : (n : ℕ) → n * entry_width f ≡ entries_width f n
  unfolding entries_width
  entries_product n = refl

  -- ---- a record's front

  pub count-least : 52 ≤ entry_count_at f
  unfolding entry_count_at
  count-least = omega arith

  pub count_most : entry_count_at f ≤ 56
  unfolding entry_count_at
  count_most = omega arith

  -- The user ID fills what is left between the page size and the entry count.
  pub length-user_bytes : (v : ℕ) → 52 + length (user_bytes f v) ≡ entry_count_at f
  unfolding user_bytes entry_count_at
  length-user_bytes v = rw (length-number_bytes 4 v)

  -- ---- stored addresses and checksums

  pub address-take : (xs : List ℕ) (m at : ℕ) → at + 8 ≤ m → address_at f (take m xs) at ≡ address_at f xs at
  unfolding address_at
  address-take xs m at h = rw (part-take xs m at 8 h)

  pub length-address_bytes : (v : ℕ) → length (address_bytes f v) ≡ 8
  unfolding address_bytes
  length-address_bytes v = length-number_bytes 8 v

  -- The same bytes say the same.
  pub address_same : (xs ys : List ℕ) (at to : ℕ) → part xs at 8 ≡ part ys to 8 → address_at f xs at ≡ address_at f ys to
  unfolding address_at
  address_same xs ys at to e = rw e

  pub page-sum-same : (xs ys : List ℕ) (at to : ℕ) → part xs at (entry_sum_at f) ≡ part ys to (entry_sum_at f) → page_sum_at f xs at ≡ page_sum_at f ys to
  unfolding page_sum_at entry_sum_at
  page-sum-same xs ys at to e =
      let inner : part xs (at + 16) 4 ≡ part ys (to + 16) 4 = sym (part-part xs at 20 16 4 (omega arith)) ∙ rw e (part-part ys to 20 16 4 (omega arith)) in
      rw inner

  -- An address that fits is read back.
  pub address_back : (xs : List ℕ) (at v : ℕ) → part xs at 8 ≡ address_bytes f v → v ≤ limit → address_at f xs at ≡ v
  unfolding address_at address_bytes
  address_back xs at v e h = rw e (value-number_bytes 8 v (omega arith))

  pub page-sum-take : (xs : List ℕ) (m at : ℕ) → at + entry_sum_at f ≤ m → page_sum_at f (take m xs) at ≡ page_sum_at f xs at
  unfolding page_sum_at entry_sum_at
  page-sum-take xs m at h = rw (part-take xs m (at + 16) 4 (omega arith))

  -- The page's checksum fills what is left between the addresses and the entry's own.
  pub length-page_sum_bytes : (v : ℕ) → 16 + length (page_sum_bytes f v) ≡ entry_sum_at f
  unfolding page_sum_bytes entry_sum_at
  length-page_sum_bytes v = rw (length-number_bytes 4 v)

  -- A page's checksum is read back.
  pub page-sum_back : (xs : List ℕ) (at v : ℕ) → part xs (at + 16) (length (page_sum_bytes f v)) ≡ page_sum_bytes f v → v < 2 ^ 32 → page_sum_at f xs at ≡ v
  unfolding page_sum_at page_sum_bytes
  page-sum_back xs at v e h =
      let four : part xs (at + 16) 4 ≡ number_bytes 4 v = rw (length-number_bytes 4 v) at e in
      rw four (value-number_bytes 4 v h)

  -- What stands has the bytes of what is read there.
  module _ (xs : List ℕ) (small : (k : ℕ) → get_or xs k 0 < 256) (at : ℕ) where
    pub address-stands : at + 8 ≤ length xs → address_bytes f (address_at f xs at) ≡ part xs at 8
    unfolding address_at address_bytes
    address-stands h = number-stands 8 xs at small h

    pub page-sum-stands : at + entry_sum_at f ≤ length xs → part xs at 16 ++ page_sum_bytes f (page_sum_at f xs at) ≡ part xs at (entry_sum_at f)
    unfolding page_sum_at page_sum_bytes entry_sum_at
    page-sum-stands h = rw (number-stands 4 xs (at + 16) small (omega arith)) (sym (part_add xs at 16 4))

  -- ---- runs of entries

  pub entries_add : (m n : ℕ) → entries_width f (m + n) ≡ entries_width f m + entries_width f n
  unfolding entries_width
  entries_add m n = add-mul m n (entry_width f)

  pub entries-ordered : (m n : ℕ) → m ≤ n → entries_width f m ≤ entries_width f n
  unfolding entries_width
  entries-ordered m n h = mul-le-mul_right (entry_width f) h

  pub entries-least : (n : ℕ) → 16 * n ≤ entries_width f n
  entries-least zero = omega arith
  entries-least (suc n) = omega (arith, entries-least n, entries_next n, entry-least)
