-- The date of a day is the one that the calendar has for it.
use Rattle.std.proofs.Common.{◌≡◌, ℕ, zero, suc, ◌+◌, ◌-◌, ◌*◌, ◌/◌, ◌%◌, ◌<◌, ◌≤◌, inl, inr, Bool, true, false, nat_le, refl, sym, ap, ◌∙◌, subst, arith, ℤ, pos, negsuc, ◌+ℤ◌, ◌*ℤ◌, ◌++◌, codes, min, to_z, w64}
use Rattle.std.proofs.lemmas.Bool.{cases_order}
use Rattle.std.proofs.lemmas.Bool.Decides.{nat_tests}
use Rattle.std.proofs.lemmas.Int.{to_z_pos}
use Rattle.jiff_core.specs.declared.civil.datetime.DateTime.{DateTime}
use Rattle.jiff_core.specs.declared.civil.time.Time.{Time}
use Rattle.jiff_core.specs.Calendar.{day_count, IsCivilDate}
use Rattle.jiff_core.specs.DateTime.{civil_nanos}
use Rattle.jiff_core.proofs.SignedLemmas.{signed_arith}
use Rattle.jiff_core.proofs.CalendarLemmas.{day_count-epoch, day_count-lt_year, day_count-lt_month, day_count-day_of_year, day_count-day, days_from_civil-day_count}
use Rattle.jiff_core.proofs.DateLemmas.{civil}
use Rattle.jiff_core.proofs.DateTimeLemmas.{civil_nanos-parts, time_nanos_bound}
use Rattle.jiff.specs.Names.{iso_datetime_text}
use Rattle.ixp_ixf.specs.Moments.{first_day, last_from, year_of, month_of, day_of, date_text, time_text, moment_text}

-- where a test holds up to t and not behind it, t is found
last_from_is : (test : ℕ → Bool) (more n t : ℕ) → n ≤ t → t ≤ n + more → ((k : ℕ) → n < k → k ≤ t → test k ≡ true) → (t < n + more → test (suc t) ≡ false) → last_from test more n ≡ t
unfolding last_from
last_from_is test zero n t low high holds ends = omega arith
last_from_is test (suc more) n t low high holds ends =
    elim (cases_order n t) [
      | inl same ↦ let stops : test (suc n) ≡ false = rw same (ends (omega arith)) in rw stops same
      | inr (inl lt) ↦ rw (holds (suc n) (omega arith) (omega arith)) (last_from_is test more (suc n) t (omega arith) (omega arith) (λ k above below. holds k (omega arith) below) (λ below. ends (omega arith)))
      | inr (inr gt) ↦ absurd (omega arith)
    ]

first_day-count : (year month : ℕ) → first_day year month ≡ day_count (pos year) month 1 - 4_371_953
unfolding first_day
first_day-count year month = rw day_count-epoch refl

-- no date comes before the first day of an earlier year, or of its own
starts_before : (k year m d : ℕ) → k ≤ year → IsCivilDate (pos year) m d → day_count (pos k) 1 1 ≤ day_count (pos year) m d
starts_before k year m d low date =
    elim (cases_order k year) [
      | inl same ↦ rw same (omega (arith, day_count-day_of_year (pos year) m d date.2.0, date.2.0))
      | inr (inl lt) ↦
          let first : IsCivilDate (pos k) 1 1 = (omega (arith, signed_arith, date.0), (omega arith, omega arith), (omega arith, omega arith)) in
          let less : day_count (pos k) 1 1 < day_count (pos year) m d = day_count-lt_year (pos k) 1 1 (pos year) m d first date.2.0 (omega (arith, signed_arith)) in
          omega arith
      | inr (inr gt) ↦ absurd (omega arith)
    ]

-- and none before the first day of an earlier month of its year, or of its own
month_starts_before : (k year m d : ℕ) → 1 ≤ k → k ≤ m → IsCivilDate (pos year) m d → day_count (pos year) k 1 ≤ day_count (pos year) m d
month_starts_before k year m d some low date =
    elim (cases_order k m) [
      | inl same ↦ rw same (omega (arith, day_count-day (pos year) m d 1 date.2.0 (omega arith), date.2.0))
      | inr (inl lt) ↦
          let first : IsCivilDate (pos year) k 1 = (date.0, (some, omega (arith, date.1.1)), (omega arith, grind (arith, nat_tests))) in
          let less : day_count (pos year) k 1 < day_count (pos year) m d = day_count-lt_month (pos year) k 1 m d first date.2.0 lt in
          omega arith
      | inr (inr gt) ↦ absurd (omega arith)
    ]

-- a date from 1970 on whose day is counted
pub record Counted (year m d day : ℕ) : Type 0 where
  pub date : IsCivilDate (pos year) m d
  pub late : 1970 ≤ year
  pub count : day_count (pos year) m d ≡ day + 4_371_953

year_is : (year m d day : ℕ) → Counted year m d day → year_of day ≡ year
year_is year m d day c =
    last_from_is _ 8029 1970 year c.late (omega (arith, signed_arith, c.date.0))
    (λ k above below.
    let before : day_count (pos k) 1 1 ≤ day_count (pos year) m d = starts_before k year m d below c.date in
    let fits : first_day k 1 ≤ day = omega (arith, first_day-count k 1, c.count) in
    grind (arith, nat_tests))
    (λ last.
    let after : day_count (pos year) m d < day_count (pos (suc year)) 1 1 = day_count-lt_year (pos year) m d (pos (suc year)) 1 1 c.date (omega arith) (omega (arith, signed_arith)) in
    let late : day < first_day (suc year) 1 = omega (arith, first_day-count (suc year) 1, c.count) in
    grind (arith, nat_tests))

month_is : (year m d day : ℕ) → Counted year m d day → month_of day ≡ m
month_is year m d day c =
    subst (λ (y : ℕ). last_from (λ month. nat_le (first_day y month) day) 11 1 ≡ m) (sym (year_is year m d day c))
    (last_from_is (λ month. nat_le (first_day year month) day) 11 1 m c.date.1.0 (omega (arith, c.date.1.1))
    (λ k above below.
    let before : day_count (pos year) k 1 ≤ day_count (pos year) m d = month_starts_before k year m d (omega arith) below c.date in
    let fits : first_day year k ≤ day = omega (arith, first_day-count year k, c.count) in
    grind (arith, nat_tests))
    (λ last.
    let after : day_count (pos year) m d < day_count (pos year) (suc m) 1 = day_count-lt_month (pos year) m d (suc m) 1 c.date (omega arith) (omega arith) in
    let late : day < first_day year (suc m) = omega (arith, first_day-count year (suc m), c.count) in
    grind (arith, nat_tests)))

day_is : (year m d day : ℕ) → Counted year m d day → day_of day ≡ d
day_is year m d day c =
    let there : first_day (year_of day) (month_of day) ≡ first_day year m = ap (λ y. first_day y (month_of day)) (year_is year m d day c) ∙ ap (first_day year) (month_is year m d day c) in
    let first : IsCivilDate (pos year) m 1 = (c.date.0, c.date.1, (omega arith, omega (arith, c.date.2.0, c.date.2.1))) in
    let since : day_count (pos 1970) 1 1 ≤ day_count (pos year) m 1 = starts_before 1970 year m 1 c.late first in
    omega (arith, there, first_day-count year m, since, day_count-epoch, day_count-day (pos year) m d 1 c.date.2.0 (omega arith), c.date.2.0, c.count)

-- The parts of a date by its day.
pub record HasDate (y : ℤ) (m d n : ℕ) : Type 0 where
  pub year : y ≡ pos (year_of n)
  pub month : m ≡ month_of n
  pub day : d ≡ day_of n

date_is : (y : ℤ) (m d day : ℕ) → IsCivilDate y m d → day_count y m d ≡ day + 4_371_953 → HasDate y m d day
date_is (negsuc n) m d day date count =
    let before : day_count (negsuc n) m d < day_count (pos 1970) 1 1 = day_count-lt_year (negsuc n) m d (pos 1970) 1 1 date (omega arith) (omega (arith, signed_arith)) in
    absurd (omega (arith, before, day_count-epoch))
date_is (pos year) m d day date count =
    let late : 1970 ≤ year = elim (cases_order year 1970) [
      | inl same ↦ omega arith
      | inr (inl lt) ↦
          let before : day_count (pos year) m d < day_count (pos 1970) 1 1 = day_count-lt_year (pos year) m d (pos 1970) 1 1 date (omega arith) (omega (arith, signed_arith)) in
          absurd (omega (arith, before, day_count-epoch))
      | inr (inr gt) ↦ omega arith
    ] in
    let c : Counted year m d day = record { date = date; late = late; count = count } in
    record { year = ap pos (sym (year_is year m d day c)); month = sym (month_is year m d day c); day = sym (day_is year m d day c) }

-- the parts of a time by its second
pub record HasTime (t : Time) (n : ℕ) : Type 0 where
  pub hour : t.hour ≡ n / 3600
  pub minute : t.minute ≡ n / 60 % 60
  pub second : t.second ≡ n % 60
  pub whole : t.subsec_nanosecond ≡ 0

-- a civil moment by its second
pub record HasMoment (dt : DateTime) (second : ℕ) : Type 0 where
  pub date : HasDate dt.date.year dt.date.month dt.date.day (second / 86400)
  pub time : HasTime dt.time (second % 86400)

pub moment_is : (dt : DateTime) (second : ℕ) → civil_nanos dt ≡ pos (second * 1_000_000_000) → HasMoment dt second
moment_is dt second e = record {
  date = date_is dt.date.year dt.date.month dt.date.day (second / 86400) (civil dt.date)
      (let parts = civil_nanos-parts dt in
      let bound = time_nanos_bound dt.time in
      omega (arith, signed_arith, e, parts, bound, days_from_civil-day_count dt.date.year dt.date.month dt.date.day));
  time = record {
    hour = omega (arith, signed_arith, e, civil_nanos-parts dt, time_nanos_bound dt.time);
    minute = omega (arith, signed_arith, e, civil_nanos-parts dt, time_nanos_bound dt.time);
    second = omega (arith, signed_arith, e, civil_nanos-parts dt, time_nanos_bound dt.time);
    whole = omega (arith, signed_arith, e, civil_nanos-parts dt, time_nanos_bound dt.time);
  };
}

-- and its text
pub moment_has_text : (dt : DateTime) (second : ℕ) → HasMoment dt second → iso_datetime_text dt ≡ date_text (second / 86400) ++ (codes "T" ++ time_text (second % 86400))
moment_has_text dt second h = rw (h.date.year, h.date.month, h.date.day, h.time.hour, h.time.minute, h.time.second, h.time.whole) refl

-- what is made of an instant at a second, where each second behind the last one counts as that one
pub stamped : (dt : DateTime) (n : ℤ) (kept second : ℕ) → kept ≡ min second 253402207199 → n ≡ to_z w64 kept *ℤ pos 1_000_000_000 → civil_nanos dt ≡ n +ℤ pos 0 → iso_datetime_text dt ++ codes "Z" ≡ moment_text second
unfolding moment_text
stamped dt n kept second same instant civil =
    let below : kept ≤ 253402207199 = omega arith in
    let small : to_z w64 kept ≡ pos kept = to_z_pos w64 kept (omega arith) in
    let nanos : n ≡ pos kept *ℤ pos 1_000_000_000 = subst (λ (z : ℤ). n ≡ z *ℤ pos 1_000_000_000) small instant in
    let e : civil_nanos dt ≡ pos (kept * 1_000_000_000) = omega (arith, signed_arith, nanos, civil) in
    rw (moment_has_text dt kept (moment_is dt kept e), same) refl
