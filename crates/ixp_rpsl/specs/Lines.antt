-- The lines of whois data.
use Rattle.std.specs.Prelude.{ℕ, ◌+◌, ◌==◌, ◌||◌, Bool, false, List, [], ◌∷◌, if◌then◌else◌}
use Rattle.std.specs.Str.Lines.{lines}
use Rattle.ixp_rpsl.specs.declared.ahead.Ahead.{Ahead}
use Rattle.ixp_rpsl.specs.declared.ahead.Line as rust

-- a line, and its number in the text, counted from 1
pub record Line : Type 0 where
  pub number : ℕ
  pub bytes : List ℕ

-- what a server says about its data begins with `%` or `#`
abbrev pub is_remark : List ℕ → Bool
is_remark [] = false
is_remark (c ∷ cs) = c == 37 || c == 35

-- the lines but for remarks, where so many lines stand before them
abbrev pub numbered : ℕ → List (List ℕ) → List Line
numbered before [] = []
numbered before (l ∷ ls) = if is_remark l then numbered (before + 1) ls
    else record { number = before + 1; bytes = l } ∷ numbered (before + 1) ls

-- the lines of a text, which end at a line feed, or a carriage return and a line feed
abbrev pub lines_in : List ℕ → List Line
lines_in t = numbered 0 (lines t)

-- those that are ahead of a reader
abbrev pub lines_ahead : Ahead → List Line
lines_ahead a = numbered a.before (lines a.text.now)

abbrev pub line_of : rust.Line → Line
line_of l = record { number = l.number; bytes = l.bytes.now }
