-- Page after page of a write.
use mathlib.Core.Path.{◌≡◌, refl, sym, ap, ◌∙◌}
use mathlib.Core.Bool.{false, cond}
use mathlib.Core.List.{List, [], ◌∷◌, ◌++◌}
use Prim.Native.Nat.{ℕ, zero, suc, ◌+◌, ◌*◌, ◌-◌, ◌%◌, ◌≤◌, ◌<◌, min, max}
use native.Mathlib.Nat.{add-zero, zero-mul, mul-le-mul_right, lt_of_mul-lt-mul_right, one-mul, add-mul, suc-mul, add-mod_right, div-add-mod', mod-lt}
use native.Mathlib.Numerals.{add-one}
use native.Mathlib.Omega.{arith}
use lib.ListN.{length, take, drop, set}
use lib.Seq.{take-take, take-length}
use borrow.Rule.Slice.PartMut.{put_mid}
use Rattle.std.proofs.lemmas.Slice.{put_mid-paste}
use Rattle.rules.specs.Bytes.{part, laid, tabulate}
use Rattle.rules.specs.Layout.{limit, touch_limit, entries_in}
use Rattle.rules.specs.View.{place_of, has, page_of, own_pages, pages_from, pages_in, pages_shared}
use Rattle.rules.specs.Session.{Held, with_page, touched, touching, over_page, laid_on_page, written_pages}
use Rattle.rules.specs.declared.Setting.{Setting}
use Rattle.rules.specs.declared.Index.{Index}
use Rattle.rules.specs.declared.Entry.{Entry}
use Rattle.rules.specs.declared.State.{State}
use Rattle.rules.proofs.Bytes.{part_add, length_part, laid-nothing, length-laid, sets-laid, laid_then, length-tabulate, slice-part}
use Rattle.rules.proofs.Entries.{entries-laid, touching_snoc, has-touching}
use Rattle.rules.proofs.Range.{
  page-multiple,
  pages-behind,
  next-none,
  pages-end-near,
  own-length,
  touching_grows,
  place-touching,
  pages_reach,
  touching-front,
}
use Rattle.touching.specs.Pages.{Ready, Shares, Covers, AllNew, kept_byte}
use Rattle.touching.proofs.Copies.{page_covered, room_new, ready_source, touch_own}
use Rattle.touching.proofs.Touches.{touch_leaves, still-touches, place-room, leaves, over_whole, over_fits, own-laid, new-laid}

-- Room for a page and others is room for the page.
ready_one : {h : List ℕ} {s : Setting} {x : Index} {index : List Entry} {st : State} {a : ℕ} {pages : List ℕ}
    → Ready h s x index st (a ∷ pages) → Ready h s x (entries_in h x) st (a ∷ [])
unfolding touching
ready_one {h} {s} {x} {index} {st} {a} {pages} w =
    let g = touching_grows (cond (has (own_pages st) a) (own_pages st) (own_pages st ++ (a ∷ []))) pages in
    let m = mul-le-mul_right s.form.page g in
    record {
      sized = w.sized;
      short = w.short;
      small = w.small;
      full = w.full;
      few = w.few;
      same = refl;
      ahead = w.ahead;
      rising = rw w.same w.rising;
      stored = λ k l. rw w.same (w.stored k l);
      touches = omega (arith, w.touches);
      room = omega (arith, w.room);
    }

-- A session with j pages more, of p bytes each, from an address on.
abbrev pub noted : ℕ → State → ℕ → ℕ → State
noted p st a j = record {
  end = st.end;
  count = st.count;
  parent = st.parent;
  size = st.size;
  n = st.n + j;
  pages = laid st.pages st.n (tabulate j (λ i. a + i * p));
}

noted-none : (p : ℕ) (st : State) (a : ℕ) → noted p st a 0 ≡ st
unfolding tabulate
noted-none p st a = rw (add-zero, laid-nothing)

noted_more : (p : ℕ) (st : State) (a j : ℕ) → st.n + j < length st.pages → noted p st a (suc j) ≡ with_page (noted p st a j) (a + j * p)
unfolding tabulate
noted_more p st a j l =
    let f : ℕ → ℕ = λ i. a + i * p in
    let long : length (tabulate j f) ≡ j = length-tabulate j f in
    let fits : st.n + length (tabulate j f) ≤ length st.pages = rw long (omega arith) in
    let now : List ℕ = laid st.pages st.n (tabulate j f) in
    let one : set now (st.n + j) (a + j * p) ≡ laid now (st.n + j) ((a + j * p) ∷ []) =
    sets-laid now (st.n + j) ((a + j * p) ∷ []) (omega (arith, length-laid st.pages st.n (tabulate j f) fits)) in
    let n : st.n + suc j ≡ st.n + j + 1 = omega arith in
    rw (n, ← laid_then st.pages now _ (tabulate j f) ((a + j * p) ∷ []) st.n (st.n + j) refl one (rw long) (omega arith))

module _ (o : List ℕ) (s : Setting) (x : Index) (index : List Entry) (offset : ℕ) (bytes : List ℕ) where
  module _ {h : List ℕ} {st : State} {a : ℕ} {pages : List ℕ} (w : Ready h s x index st (a ∷ pages)) (v : Shares s.form.page a offset (length bytes)) where
    abbrev touch : Held
    touch = touched o s index a (record { history = h; session = st })

    fits : touch.session.end + place_of a (own_pages touch.session) * s.form.page + (max offset a - a)
        + length (part bytes (max offset a - offset) (min (offset + length bytes) (a + s.form.page) - max offset a)) ≤ length touch.history
    fits =
        let z = touch_leaves w o in
        rw z.long (over_fits bytes v _ _ (place-room w z refl))

    step_long : length (laid_on_page s offset bytes a touch).history ≡ length h
    unfolding over_page laid_on_page
    step_long = length-laid touch.history _ _ fits ∙ (touch_leaves w o).long

    step_ready : Ready (laid_on_page s offset bytes a touch).history s x index (laid_on_page s offset bytes a touch).session pages
    unfolding over_page laid_on_page
    step_ready =
        let z = touch_leaves w o in
        let n = step_long in
        let e = ap length (still-touches w z) in
        record {
          sized = w.sized;
          short = rw n w.short;
          small = rw z.size w.small;
          full = z.full;
          few = z.few;
          same = entries-laid x.form touch.history _ _ x.at x.entries fits (omega (arith, w.ahead, z.end)) ∙ z.same;
          ahead = rw z.end w.ahead;
          rising = w.rising;
          stored = λ i q. rw z.end (w.stored i q);
          touches = rw e w.touches;
          room = rw (n, e, z.end) w.room;
        }

    step_own : (own others : List ℕ) → own_pages st ≡ touching own others → own_pages (laid_on_page s offset bytes a touch).session ≡ touching own (others ++ (a ∷ []))
    unfolding laid_on_page
    step_own own others e = (touch_leaves w o).own ∙ rw e (sym (touching_snoc own others a))

  abbrev first : ℕ
  first = page_of s.form.page offset

  -- After k of m pages.
  pub record Writing (m : ℕ) (start now : Held) (a k : ℕ) : Type 0 where
    pub all : m ≡ pages_in s.form.page offset (length bytes)
    pub within : k ≤ m
    pub spot : a ≡ first + k * s.form.page
    pub even : a % s.form.page ≡ 0
    pub ready : Ready now.history s x index now.session (pages_from s.form.page a (m - k))
    pub own : own_pages now.session ≡ touching (own_pages start.session) (pages_from s.form.page first k)
    pub long : length now.history ≡ length start.history
    pub rest : written_pages o s index offset bytes (pages_from s.form.page first m) start ≡ written_pages o s index offset bytes (pages_from s.form.page a (m - k)) now

  pub writing_start : (start : Held) {m : ℕ} → m ≡ pages_in s.form.page offset (length bytes)
      → Ready start.history s x index start.session (pages_shared s.form.page offset (length bytes))
      → Writing m start start first 0
  unfolding pages_from touching
  writing_start start {m} e w =
      let z : m - 0 ≡ m = omega arith in
      record { all = e; within = omega arith; spot = rw (zero-mul, add-zero); even = page-multiple s.form.page offset; ready = rw (z, e) w; own = refl; long = refl; rest = rw z }

  module _ {m : ℕ} {start : Held} {h : List ℕ} {st : State} {a k : ℕ} (w : Writing m start (record { history = h; session = st }) a k) (more : k < m) where
    next : m - k ≡ suc (m - (k + 1))
    next = omega arith

    writing_ready : Ready h s x index st (a ∷ pages_from s.form.page (a + s.form.page) (m - (k + 1)))
    unfolding pages_from
    writing_ready = rw next at w.ready

    pub writing_one : Ready h s x (entries_in h x) st (a ∷ [])
    writing_one = ready_one writing_ready

    -- The page lies from the first one on, and less than a page behind the write.
    pub writing_shares : offset + length bytes ≤ limit → Shares s.form.page a offset (length bytes)
    writing_shares short =
        let size = w.ready.sized in
        let some : 0 < s.form.page = omega (arith, size.least) in
        let q : suc k * s.form.page ≤ m * s.form.page = mul-le-mul_right s.form.page more in
        let near : first + m * s.form.page < offset + length bytes + s.form.page = rw w.all (pages-end-near s.form.page offset (length bytes) some) in
        record {
          some = some;
          small = size.most;
          below = omega (arith, w.spot, suc-mul k s.form.page);
          above = omega (arith, w.spot, div-add-mod' offset s.form.page, mod-lt offset some);
          short = short;
        }

    -- The session's pages ahead of the write still stand in front.
    pub writing_kept : start.session.n ≤ length start.session.pages → take start.session.n st.pages ≡ own_pages start.session
    writing_kept full =
        let own = own_pages start.session in
        let others = pages_from s.form.page first k in
        let n : length own ≡ start.session.n = own-length start.session full in
        let now : length (own_pages st) ≡ st.n = own-length st (omega (arith, w.ready.full, w.ready.few)) in
        let l : start.session.n ≤ st.n = omega (arith, ap length w.own, touching_grows own others) in
        sym (take-take start.session.n st.n st.pages l) ∙ rw w.own (rw n at (touching-front own others))

    -- A page that was not there ahead of the write is not there now: no other of the write's pages is this one.
    pub writing-fresh : has (own_pages start.session) a ≡ false → has (own_pages st) a ≡ false
    writing-fresh r =
        let q : has (pages_from s.form.page first k) a ≡ false = rw w.spot (next-none s.form.page first k (omega (arith, w.ready.sized.least))) in
        ap (λ (l : List ℕ). has l a) w.own ∙ has-touching (own_pages start.session) (pages_from s.form.page first k) a ∙ rw (r, q)

    -- A page that was there ahead of the write is found.
    module _ (full : start.session.n ≤ length start.session.pages) {place : ℕ} (e : place ≡ place_of a (take start.session.n st.pages)) where
      writing-there : place < length (take start.session.n st.pages) → (place ≡ place_of a (own_pages st)) × (place < st.n)
      writing-there l =
          let kept = writing_kept full in
          let e : place ≡ place_of a (own_pages start.session) = e ∙ ap (place_of a) kept in
          let b : place_of a (own_pages start.session) < length (own_pages start.session) = omega (arith, ap length kept) in
          let f = place-touching a (own_pages start.session) (pages_from s.form.page first k) b in
          let g = touching_grows (own_pages start.session) (pages_from s.form.page first k) in
          let n = own-length st (omega (arith, w.ready.full, w.ready.few)) in
          (rw w.own (e ∙ sym f), omega (arith, ap length w.own))

      pub writing-room : place < length (take start.session.n st.pages) → st.end + place * s.form.page + s.form.page ≤ length h
      writing-room l = let t = writing-there l in place-room writing_one (leaves writing_one o (touch_own writing_one o t.0 t.1)) t.0

    turn : Shares s.form.page a offset (length bytes) → {after : Held} → after ≡ laid_on_page s offset bytes a (touched o s (entries_in h x) a (record { history = h; session = st }))
        → Writing m start after (a + s.form.page) (k + 1)
    unfolding written_pages pages_from
    turn v {after} e =
        let i : entries_in h x ≡ index = w.ready.same in
        let f : after ≡ laid_on_page s offset bytes a (touched o s index a (record { history = h; session = st })) = rw i at e in
        rw f
        (record {
          all = w.all;
          within = omega arith;
          spot = rw (add-one k, suc-mul) (omega (arith, w.spot));
          even = rw add-mod_right w.even;
          ready = step_ready writing_ready v;
          own = step_own writing_ready v (own_pages start.session) (pages_from s.form.page first k) w.own ∙ ap (touching (own_pages start.session)) (sym (pages-behind s.form.page first k w.spot));
          long = step_long writing_ready v ∙ w.long;
          rest = w.rest ∙ rw next;
        })

    module _ (short : offset + length bytes ≤ limit) (full : start.session.n ≤ length start.session.pages) {place : ℕ} (e : place ≡ place_of a (take start.session.n st.pages)) where
      pub writing-over : {y : List ℕ} → place < length (take start.session.n st.pages) → y ≡ over_page h (st.end + place * s.form.page) s.form.page a offset bytes
          → Writing m start (record { history = y; session = st }) (a + s.form.page) (k + 1)
      writing-over l q = let t = writing-there full e l in turn (writing_shares short) (own-laid writing_one o offset bytes t.0 t.1 q)

    module _ (short : offset + length bytes ≤ limit) (none : has (own_pages start.session) a ≡ false) where
      pub writing_new : {y : List ℕ}
          → y ≡ over_page (laid h (st.end + st.n * s.form.page) (tabulate s.form.page (kept_byte o h (entries_in h x) a st.size))) (st.end + st.n * s.form.page) s.form.page a offset bytes
          → Writing m start (record { history = y; session = with_page st a }) (a + s.form.page) (k + 1)
      writing_new q = turn (writing_shares short) (new-laid writing_one o offset bytes w.even (writing-fresh none) q)

      -- A new page that the write covers is its run alone.
      writing_whole : offset ≤ a → a - offset + s.form.page ≤ length bytes
          → Writing m start (record { history = laid h (st.end + st.n * s.form.page) (part bytes (a - offset) s.form.page); session = with_page st a }) (a + s.form.page) (k + 1)
      writing_whole l fits =
          writing_new
          (page_covered o a st.size (ready_source writing_one (writing-fresh none)) _ (length_part bytes (a - offset) s.form.page fits) refl
          ∙ over_whole s.form.page a offset _ (st.end + st.n * s.form.page) bytes l fits)

  -- What is stored so far lies in the history.
  pub writing_past : {m : ℕ} {start now : Held} {a k : ℕ} → Writing m start now a k → now.session.end + now.session.n * s.form.page ≤ length start.history
  writing_past {m} {start} {now} {a} {k} w =
      let own = own_pages now.session in
      let pages = pages_from s.form.page a (m - k) in
      let n = own-length now.session (omega (arith, w.ready.full, w.ready.few)) in
      let q : now.session.n ≤ length (touching own pages) = omega (arith, touching_grows own pages) in
      omega (arith, w.ready.room, w.long, mul-le-mul_right s.form.page q)

  -- History and session once j new pages, which the write covers, are stored as one run.
  abbrev pub run_held : List ℕ → State → ℕ → ℕ → Held
  run_held h st a j = record {
    history = laid h (st.end + st.n * s.form.page) (part bytes (a - offset) (j * s.form.page));
    session = noted s.form.page st a j;
  }

  moved : {m : ℕ} {start now now' : Held} {a a' k k' : ℕ} → now' ≡ now → a' ≡ a → k' ≡ k → Writing m start now a k → Writing m start now' a' k'
  moved e f g w = rw (e, f, g) w

  module _ {m : ℕ} {start : Held} {h : List ℕ} {st : State} {a k : ℕ} (w : Writing m start (record { history = h; session = st }) a k)
      (short : offset + length bytes ≤ limit) (from : offset ≤ a) where
    run_none : Writing m start (run_held h st a 0) (a + 0 * s.form.page) (k + 0)
    run_none =
        let p = s.form.page in
        let none : 0 * p ≡ 0 = zero-mul p in
        let still : ◌≡◌ {A = Held} (run_held h st a 0) (record { history = h; session = st }) = rw (none, noted-none p st a, laid-nothing h (st.end + st.n * p)) in
        moved still (rw none (add-zero a)) (add-zero k) w

    run_more : (j : ℕ) → Writing m start (run_held h st a j) (a + j * s.form.page) (k + j) → k + suc j ≤ m → a - offset + suc j * s.form.page ≤ length bytes
        → has (own_pages start.session) (a + j * s.form.page) ≡ false
        → Writing m start (run_held h st a (suc j)) (a + suc j * s.form.page) (k + suc j)
    run_more j v in-pages in_bytes none =
        let p = s.form.page in
        let more : suc j * p ≡ j * p + p = suc-mul j p in
        let next : k + j < m = omega arith in
        let room = room_new (writing_one v next) (writing-fresh v next none) in
        let to : st.end + st.n * p + j * p ≡ st.end + (st.n + j) * p = omega (arith, add-mul st.n j p) in
        let at : a - offset + j * p ≡ a + j * p - offset = omega arith in
        let laid_on : laid h (st.end + st.n * p) (part bytes (a - offset) (suc j * p)) ≡ laid (run_held h st a j).history (st.end + (st.n + j) * p) (part bytes (a + j * p - offset) p) =
        rw (more, part_add bytes (a - offset) (j * p) p, at)
        (sym (laid_then h _ _ (part bytes (a - offset) (j * p)) (part bytes (a + j * p - offset) p) (st.end + st.n * p) (st.end + (st.n + j) * p) refl refl
        (rw (length_part bytes (a - offset) (j * p) (omega arith)) to) (omega (arith, room.1, v.long, w.long)))) in
        let session = noted_more p st a j (omega (arith, room.0, w.ready.full)) in
        moved (rw (laid_on, session)) (omega arith) (omega arith) (writing_whole v next short none (omega arith) (omega arith))

    pub writing_run : (j : ℕ) → k + j ≤ m → a - offset + j * s.form.page ≤ length bytes → AllNew (own_pages start.session) s.form.page a j
        → Writing m start (run_held h st a j) (a + j * s.form.page) (k + j)
    writing_run zero in-pages in_bytes new = run_none
    writing_run (suc j) in-pages in_bytes new =
        run_more j (writing_run j (omega arith) (omega (arith, suc-mul j s.form.page)) (λ i l. new i (omega arith))) in-pages in_bytes (new j (omega arith))

  -- Some pages from one on that the write covers and the session did not have: they are pages of the write, and there is room for them.
  pub record Fits (m : ℕ) (h : List ℕ) (st : State) (a k j : ℕ) : Type 0 where
    pub from : offset ≤ a
    pub in-pages : k + j ≤ m
    pub in_bytes : a - offset + j * s.form.page ≤ length bytes
    pub in-session : st.n + j ≤ touch_limit
    pub in-history : st.end + st.n * s.form.page + length (take (a - offset + j * s.form.page - (a - offset)) (drop (a - offset) bytes)) ≤ length h

  module _ {m : ℕ} {start : Held} {h : List ℕ} {st : State} {a k r j : ℕ} (w : Writing m start (record { history = h; session = st }) a k)
      (short : offset + length bytes ≤ limit) (v : Covers s.form.page a offset (length bytes) r) (some : 1 ≤ j) (l : j ≤ r)
      (new : AllNew (own_pages start.session) s.form.page a j) where
    starts : offset ≤ a
    starts = v.starts (omega arith)

    covers : a - offset + j * s.form.page ≤ length bytes
    covers = omega (arith, v.ends, mul-le-mul_right s.form.page l)

    -- The write's pages reach to its end, so those that it covers are among them.
    within : k + j ≤ m
    within =
        let p = s.form.page in
        let pos : 0 < p = omega (arith, w.ready.sized.least) in
        let n : 0 < length bytes = omega (arith, covers, mul-le-mul_right p some, one-mul p) in
        let q : offset + length bytes ≤ first + m * p = rw w.all (pages_reach p offset (length bytes) pos n) in
        let b : (k + j) * p < suc m * p = omega (arith, add-mul k j p, suc-mul m p, w.spot, starts, covers) in
        omega (arith, lt_of_mul-lt-mul_right p b)

    all-stored : Writing m start (run_held h st a j) (a + j * s.form.page) (k + j)
    all-stored = writing_run w short starts j within covers new

    pub writing_fits : Fits m h st a k j
    writing_fits = record {
      from = starts;
      in-pages = within;
      in_bytes = covers;
      in-session = all-stored.ready.few;
      in-history = rw (slice-part bytes (a - offset) (j * s.form.page), length_part bytes (a - offset) (j * s.form.page) covers) (omega (arith, writing_past all-stored, w.long, add-mul st.n j s.form.page));
    }

    noted_long : length (take (st.n + j - st.n) (drop st.n st.pages)) ≡ j
    noted_long = rw slice-part (length_part st.pages st.n j (omega (arith, all-stored.ready.few, w.ready.full)))

    -- What is noted takes the place of as many pages.
    noted-laid : (ys : List ℕ) → ys ≡ tabulate (length (take (st.n + j - st.n) (drop st.n st.pages))) (λ i. a + i * s.form.page)
        → put_mid st.n (st.n + j - st.n) st.pages ys ≡ laid st.pages st.n (tabulate j (λ i. a + i * s.form.page))
    unfolding laid
    noted-laid ys e =
        let over : List ℕ = tabulate j (λ i. a + i * s.form.page) in
        let long : length over ≡ j = length-tabulate j (λ i. a + i * s.form.page) in
        put_mid-paste st.n (st.n + j - st.n) st.pages ys over (length over) (rw noted_long at e) (omega arith) refl ∙ rw take-length

    pub writing-stored : {y ys : List ℕ}
        → y ≡ laid h (st.end + st.n * s.form.page) (take (a - offset + j * s.form.page - (a - offset)) (drop (a - offset) bytes))
        → ys ≡ tabulate (length (take (st.n + j - st.n) (drop st.n st.pages))) (λ i. a + i * s.form.page)
        → Writing m start
        (record { history = y; session = record { end = st.end; count = st.count; parent = st.parent; size = st.size; n = st.n + j; pages = put_mid st.n (st.n + j - st.n) st.pages ys } })
        (a + j * s.form.page)
        (k + j)
    writing-stored e f = rw (e, noted-laid _ f, slice-part bytes (a - offset) (j * s.form.page)) all-stored

  pub writing-end : {m : ℕ} {start now : Held} {a k : ℕ} → Writing m start now a k → m ≤ k
      → now ≡ written_pages o s index offset bytes (pages_shared s.form.page offset (length bytes)) start
  unfolding written_pages pages_from
  writing-end {m} {start} {now} {a} {k} w l = let e : m - k ≡ 0 = omega arith in rw (← w.all) (sym (w.rest ∙ rw e))
