-- Refusals of a command, as those of some command.
use Rattle.std.proofs.Common.{◌≡◌, ℕ, List, Err, sym, subst}
use Rattle.ixp_num.specs.declared.cause.Cause.{Cause}
use Rattle.ixp_num.specs.declared.family.Family.{Family}
use Rattle.ixp_rpsl_text.specs.declared.listing.Listing.{Listing}
use Rattle.ixp_rpsl_text.specs.Listings.{ExpandsNot}
use Rattle.ixp_cli_plain.specs.declared.command.Question.{Question}
use Rattle.ixp_cli_plain.specs.declared.command.Question.TheVariants.{Check, Eval, Fate, Generate, Export, Expand}
use Rattle.ixp_cli_plain.specs.declared.end.NoAnswer.{NoAnswer}
use Rattle.ixp_cli_plain.specs.declared.end.NoAnswer.TheVariants.{Bad, Unknown, BadObjects, NoMemory}
use Rattle.ixp_cli_plain.specs.Checks.{IsNoDump}
use Rattle.ixp_cli_plain.specs.Evals.{IsNoEval}
use Rattle.ixp_cli_plain.specs.Expansions.{HasCause}
use Rattle.ixp_cli_plain.specs.Fates.{HasNoRouter, IsNoFate}
use Rattle.ixp_cli_plain.specs.Generates.{IsUnknown}
use Rattle.ixp_cli_plain.specs.Runs.{IsNoAnswer, Refused, RefusedOr}

-- a command that asks for no router is refused with a cause alone
pub no_router_asked : (why : Cause → Type 0) (away : List ℕ → Type 0) (n : NoAnswer) → Refused why n → RefusedOr why away n
no_router_asked why away (Bad cause) is = is
no_router_asked why away (Unknown router) is = absurd is
no_router_asked why away (BadObjects cause) is = absurd is
no_router_asked why away NoMemory is = is

pub of_check : (q : Question) (input : List ℕ) (n : NoAnswer) → q ≡ Check → Refused (IsNoDump input) n → IsNoAnswer q input n
of_check q input n same is = subst (λ x. IsNoAnswer x input n) (sym same) (by n is) where
  by : (n : NoAnswer) → Refused (IsNoDump input) n → IsNoAnswer Check input n
  by (Bad cause) is = is
  by (Unknown router) is = is
  by (BadObjects cause) is = is
  by NoMemory is = is

pub of_eval : (q : Question) (input : List ℕ) (n : NoAnswer) → q ≡ Eval → Refused (IsNoEval input) n → IsNoAnswer q input n
of_eval q input n same is = subst (λ x. IsNoAnswer x input n) (sym same) (by n is) where
  by : (n : NoAnswer) → Refused (IsNoEval input) n → IsNoAnswer Eval input n
  by (Bad cause) is = is
  by (Unknown router) is = is
  by (BadObjects cause) is = is
  by NoMemory is = is

pub of_export : (q : Question) (input : List ℕ) (second : ℕ) (n : NoAnswer) → q ≡ Export second → Refused (IsNoDump input) n → IsNoAnswer q input n
of_export q input second n same is = subst (λ x. IsNoAnswer x input n) (sym same) (by n is) where
  by : (n : NoAnswer) → Refused (IsNoDump input) n → IsNoAnswer (Export second) input n
  by (Bad cause) is = is
  by (Unknown router) is = is
  by (BadObjects cause) is = is
  by NoMemory is = is

pub of_fate : (q : Question) (input : List ℕ) (n : NoAnswer) → q ≡ Fate → RefusedOr (IsNoFate input) (HasNoRouter input) n → IsNoAnswer q input n
of_fate q input n same is = subst (λ x. IsNoAnswer x input n) (sym same) (by n is) where
  by : (n : NoAnswer) → RefusedOr (IsNoFate input) (HasNoRouter input) n → IsNoAnswer Fate input n
  by (Bad cause) is = is
  by (Unknown router) is = is
  by (BadObjects cause) is = is
  by NoMemory is = is

pub of_generate : (q : Question) (input router : List ℕ) (n : NoAnswer) → q ≡ Generate router
    → RefusedOr (IsNoDump input) (λ handle. (handle ≡ router) × IsUnknown router input) n → IsNoAnswer q input n
of_generate q input router n same is = subst (λ x. IsNoAnswer x input n) (sym same) (by n is) where
  by : (n : NoAnswer) → RefusedOr (IsNoDump input) (λ handle. (handle ≡ router) × IsUnknown router input) n → IsNoAnswer (Generate router) input n
  by (Bad cause) is = is
  by (Unknown handle) is = is
  by (BadObjects cause) is = is
  by NoMemory is = is

pub of_expand : (q : Question) (input set : List ℕ) (family : Family) (listing : Listing) (n : NoAnswer) → q ≡ Expand set family listing
    → HasCause (ExpandsNot input set family listing) n → IsNoAnswer q input n
of_expand q input set family listing n same is = subst (λ x. IsNoAnswer x input n) (sym same) (by n is) where
  by : (n : NoAnswer) → HasCause (ExpandsNot input set family listing) n → IsNoAnswer (Expand set family listing) input n
  by (Bad cause) is = is
  by (Unknown router) is = is
  by (BadObjects cause) is = is
  by NoMemory is = is

pub ruleset refusals = (of_check, of_eval, of_export, of_fate, of_generate, of_expand)
