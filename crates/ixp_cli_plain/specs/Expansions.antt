-- The words of `expand`, and the lines that tell why whois data give no listing.
use Rattle.std.specs.Prelude.{ℕ, List, [], ◌∷◌, ◌++◌, Option, Some, None, codes, decimal, if◌then◌else◌}
use Rattle.ixp_num.specs.declared.family.Family.{Family}
use Rattle.ixp_num.specs.declared.family.Family.TheVariants.{V4, V6}
use Rattle.ixp_num_tables.specs.Tables.{same}
use Rattle.ixp_rpsl.specs.Values.{set_name}
use Rattle.ixp_rpsl_text.specs.declared.fault.ExpandCause.{ExpandCause}
use Rattle.ixp_rpsl_text.specs.declared.fault.ExpandCause.TheVariants.{Line, NoSet, TooMany}
use Rattle.ixp_rpsl_text.specs.declared.listing.Listing.{Listing}
use Rattle.ixp_rpsl_text.specs.declared.listing.Listing.TheVariants.{Sets, Origins, Prefixes}
use Rattle.ixp_cli_plain.specs.declared.command.Question.{Question}
use Rattle.ixp_cli_plain.specs.declared.command.Question.TheVariants.{Expand}
use Rattle.ixp_cli_plain.specs.declared.end.NoAnswer.{NoAnswer}
use Rattle.ixp_cli_plain.specs.declared.end.NoAnswer.TheVariants as answer

-- the family whose number a word is
abbrev pub family_in : List ℕ → Option Family
family_in word = if same word (codes "4") then Some V4 else if same word (codes "6") then Some V6 else None

-- the listing that a word is
abbrev pub listing_in : List ℕ → Option Listing
listing_in word =
    if same word (codes "sets") then Some Sets else if same word (codes "origins") then Some Origins
    else if same word (codes "prefixes") then Some Prefixes else None

abbrev pub expand_of : Option Family → Option Listing → Option (List ℕ) → Option Question
expand_of None listing set = None
expand_of (Some family) None set = None
expand_of (Some family) (Some listing) None = None
expand_of (Some family) (Some listing) (Some set) = Some (Expand set family listing)

-- the words are a question
abbrev pub IsAsked : Option Question → Type 0
IsAsked None = ⊥
IsAsked (Some question) = Unit {0}

-- the question that a set name in any case, a family and a listing are
abbrev pub expand_with : List ℕ → List ℕ → List ℕ → Option Question
expand_with set family listing = expand_of (family_in family) (listing_in listing) (set_name set)

-- the line that tells why whois data give no listing
abbrev pub cause_text_of : ExpandCause → List ℕ
cause_text_of (Line n) = codes "ixpm: bad input J1 " ++ (decimal n ++ 10 ∷ [])
cause_text_of (NoSet set) = codes "ixpm: bad input J2 " ++ (set ++ 10 ∷ [])
cause_text_of (TooMany have) = codes "ixpm: bad input J3 " ++ (decimal have ++ 10 ∷ [])

-- there is such a cause, or memory ran out
abbrev pub HasCause : (ExpandCause → Type 0) → NoAnswer → Type 0
HasCause why (answer.BadObjects cause) = why cause
HasCause why (answer.Bad cause) = ⊥
HasCause why (answer.Unknown router) = ⊥
HasCause why answer.NoMemory = Unit {0}
