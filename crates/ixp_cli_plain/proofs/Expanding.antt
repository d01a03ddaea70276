-- Which words are the question for an expansion.
use Rattle.std.proofs.Common.{◌≡◌, ℕ, Bool, true, false, List, Option, Some, None, option_map, map, codes, sym, subst, ap, ◌∙◌, if◌then◌else◌}
use Rattle.std.specs.Char.{to_ascii_uppercase}
use Rattle.ixp_num.specs.declared.family.Family.{Family}
use Rattle.ixp_num_tables.specs.Tables.{same}
use Rattle.ixp_rpsl.specs.Values.{is_set_name, set_name}
use Rattle.ixp_rpsl_text.specs.declared.listing.Listing.{Listing}
use Rattle.ixp_cli_plain.specs.declared.command.Command.{Command}
use Rattle.ixp_cli_plain.specs.declared.command.Command.TheVariants.{Ask}
use Rattle.ixp_cli_plain.specs.declared.command.Question.{Question}
use Rattle.ixp_cli_plain.specs.declared.command.Question.TheVariants.{Expand}
use Rattle.ixp_cli_plain.specs.Expansions.{IsAsked, expand_of, expand_with, family_in, listing_in}
use Rattle.ixp_cli_plain.specs.Runs.{IsQuestion, command_of}
use Rattle.ixp_cli_plain.specs.Serving.{serve_by}

-- no family, or no listing, or no set name
pub no_family : (set family listing : List ℕ) → None ≡ family_in family → None ≡ expand_with set family listing
no_family set family listing e = ap (λ f. expand_of f (listing_in listing) (set_name set)) e

pub no_listing : (set family listing : List ℕ) (f : Family) → Some f ≡ family_in family → None ≡ listing_in listing → None ≡ expand_with set family listing
no_listing set family listing f e g = ap (λ l. expand_of (Some f) l (set_name set)) g ∙ ap (λ x. expand_of x (listing_in listing) (set_name set)) e

pub no_set : (set family listing : List ℕ) (f : Family) (l : Listing) → Some f ≡ family_in family → Some l ≡ listing_in listing → None ≡ set_name set → None ≡ expand_with set family listing
no_set set family listing f l e g h =
    ap (λ s. expand_of (Some f) (Some l) s) h ∙ (ap (λ y. expand_of (Some f) y (set_name set)) g ∙ ap (λ x. expand_of x (listing_in listing) (set_name set)) e)

pub all_there : (set family listing : List ℕ) (f : Family) (l : Listing) (s : List ℕ) → Some f ≡ family_in family → Some l ≡ listing_in listing → Some s ≡ set_name set
    → Some (Expand s f l) ≡ expand_with set family listing
all_there set family listing f l s e g h =
    ap (λ y. expand_of (Some f) (Some l) y) h ∙ (ap (λ y. expand_of (Some f) y (set_name set)) g ∙ ap (λ x. expand_of x (listing_in listing) (set_name set)) e)

-- memory runs out only where all three are there
pub is_one : (set family listing : List ℕ) (f : Family) (l : Listing) → Some f ≡ family_in family → Some l ≡ listing_in listing → is_set_name (map to_ascii_uppercase set) ≡ true
    → IsAsked (expand_with set family listing)
is_one set family listing f l e g is =
    let named : Some (map to_ascii_uppercase set) ≡ set_name set = ap (λ b. if b then Some (map to_ascii_uppercase set) else None) (sym is) in
    subst IsAsked (all_there set family listing f l (map to_ascii_uppercase set) e g named) tt

pub ruleset expanding = (no_family, no_listing, no_set, all_there, is_one)

-- and so of the words with `expand` before them

is_question : (q : Option Question) → IsAsked q → IsQuestion (option_map Ask q)
is_question None some = absurd some
is_question (Some q) some = tt

pub asked : (word set family listing : List ℕ) → same word (codes "expand") ≡ true → IsAsked (expand_with set family listing) → IsQuestion (command_of word set family listing)
asked word set family listing is some =
    subst (λ b. IsQuestion (if b then option_map Ask (expand_with set family listing) else serve_by word set family listing)) (sym is) (is_question (expand_with set family listing) some)
