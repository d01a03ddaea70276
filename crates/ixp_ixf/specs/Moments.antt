-- The moment of an export as text (RFC 3339, ISO 8601): the date and the time of day in UTC of a second that
-- is counted from 1 January 1970.
use Rattle.std.specs.Prelude.{ℕ, zero, suc, ◌-◌, ◌/◌, ◌%◌, min, nat_le, pos, Bool, List, ◌++◌, codes, if◌then◌else◌}
use Rattle.jiff_core.specs.Calendar.{day_count}
use Rattle.jiff_fmt.specs.Text.{pad2, pad4}
use Rattle.ixp_ixf.specs.declared.moment.TheConstants.{LAST_SECOND}

-- The days from 1 January 1970 to the first day of a month (proleptic Gregorian calendar).
unfoldable pub first_day : ℕ → ℕ → ℕ
first_day year month = day_count (pos year) month 1 - day_count (pos 1970) 1 1

-- The last number, from n on and with at most so many more, up to which the test holds.
unfoldable pub last_from : (ℕ → Bool) → ℕ → ℕ → ℕ
last_from test zero n = n
last_from test (suc more) n = if test (suc n) then last_from test more (suc n) else n

-- The date of a day that is counted from there: the last year that has begun, the last month of it that has,
-- and which day of that month it is. No year above 9999 is asked for.
abbrev pub year_of : ℕ → ℕ
year_of day = last_from (λ year. nat_le (first_day year 1) day) 8029 1970

abbrev pub month_of : ℕ → ℕ
month_of day = last_from (λ month. nat_le (first_day (year_of day) month) day) 11 1

abbrev pub day_of : ℕ → ℕ
day_of day = suc (day - first_day (year_of day) (month_of day))

-- `2024-06-19`
abbrev pub date_text : ℕ → List ℕ
date_text day = pad4 (year_of day) ++ (codes "-" ++ (pad2 (month_of day) ++ (codes "-" ++ pad2 (day_of day))))

-- `17:30:05`
abbrev pub time_text : ℕ → List ℕ
time_text second = pad2 (second / 3600) ++
    (codes ":" ++ (pad2 (second / 60 % 60) ++ (codes ":" ++ pad2 (second % 60))))

-- `2024-06-19T17:30:05Z`. A second behind the last one that has a date counts as that one.
unfoldable pub moment_text : ℕ → List ℕ
moment_text second =
    let kept = min second LAST_SECOND in
    date_text (kept / 86400) ++ (codes "T" ++ (time_text (kept % 86400) ++ codes "Z"))
