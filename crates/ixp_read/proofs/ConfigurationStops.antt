-- Where syntax stops the reading of a configuration, no configuration goes on, and up to there one does; where a check refuses it, none
-- begins so.
use Rattle.std.proofs.Common.{◌≡◌, ℕ, ◌+◌, ◌<◌, ◌⊎◌, inl, inr, Bool, false, List, [], length, Err, arith, refl, sym, ◌∙◌, subst}
use Rattle.ixp_lang.specs.Trees.{ItemTree}
use Rattle.ixp_lang_tokens.specs.declared.fault.Cause.{Cause}
use Rattle.ixp_lang_tokens.specs.declared.fault.Cause.TheVariants.{Deep}
use Rattle.ixp_lang_tokens.specs.declared.token.Kind.{Kind}
use Rattle.ixp_lang_tokens.specs.Grammars.{Grammar, Took}
use Rattle.ixp_lang_tokens.specs.Reading.{read}
use Rattle.ixp_lang_tokens.specs.Syntax.{spot, Scan, scan, stopped, refused, IsFineText, StopsAt}
use Rattle.ixp_lang_tokens.proofs.Clear.{IsSeen, ClearBy}
use Rattle.ixp_lang_tokens.proofs.Seen.{first_alone}
use Rattle.ixp_lang_tokens.proofs.Scans.{Agrees, agrees}
use Rattle.ixp_lang_tokens.proofs.StopLaws.{no_more_behind, not_text}
use Rattle.ixp_lang_tokens.proofs.Quiet.{Steady, quiet_of}
use Rattle.ixp_lang_tokens.proofs.Lawful.{took_lawful, lawful_took, refused_at}
use Rattle.ixp_lang_tokens.proofs.Viable.{Supplied, Goes, goes, Viable, viable}
use Rattle.ixp_lang_exprs.specs.Names.{Names}
use Rattle.ixp_lang_exprs.specs.Declarations.{Declares}
use Rattle.ixp_lang_exprs.proofs.Sure.{behind_else}
use Rattle.ixp_read.specs.Functions.{levels_inside}
use Rattle.ixp_read.specs.Items.{define_levels, Levels, all_levels, item_within, declaration_form, table_or, item_form, config_form}
use Rattle.ixp_read.specs.Stops.{config_with, IsLawful, IsRefused, NoneGoesOn}
use Rattle.ixp_read.proofs.SureItems.{sure_item_within, clear_config, config_clear}
use Rattle.ixp_read.proofs.SteadyItems.{item_begins_within, item_steady_within, steady_config, config_steady}
use Rattle.ixp_read.proofs.WholeItems.{Fewer, item_supplied, item_exchanges, config_supplied, config_has_text}

-- no test holds at the end
fails : (t : List Kind → Bool) → IsSeen behind_else t → t [] ≡ false
fails t seen = seen.0

-- what is before the place is the front of a text of the second grammar, and with the token there of none of the first
stop_of : {A : Type 0} (f h : Grammar A) → ClearBy (IsSeen behind_else) f → Steady f → (tokens : List Kind) (n : ℕ) (cause : Cause) (rest : List Kind) → scan f (spot n tokens) ≡ stopped cause rest → Viable h n tokens rest
    → StopsAt (IsFineText h n) (IsFineText f n) tokens (length rest)
stop_of f h clear steady_f tokens n cause rest e m = record {
  front = m.taken;
  rest = rest;
  parts = m.parts;
  left_is = refl;
  begins = (m.more, (m.value, m.last, m.fine));
  no_more = λ token others more there. no_more_behind fails first_alone f clear steady_f n tokens cause rest m.taken e m.parts token others more there (λ fork. absurd cc);
  not_in = not_text fails f clear n tokens cause rest e;
}

-- where it isn't levels that are wanting, the second stops there too
stops_both : {A : Type 0} (s t : Scan A) (cause : Cause) (rest : List Kind) → Goes s t → s ≡ stopped cause rest → ¬ (cause ≡ Deep) → t ≡ stopped cause rest
stops_both s t cause rest (inl same) e levels = sym same ∙ e
stops_both s t cause rest (inr (inl (r, h))) e levels = absurd cc
stops_both s t cause rest (inr (inr (r, h))) e levels = absurd (levels cc)

-- Configurations with more levels.

abbrev levels_with : ℕ → Levels
levels_with more = record { of_define = define_levels + more; inside = levels_inside + more }

with_fewer : (more : ℕ) → 0 < more → Fewer all_levels (levels_with more)
with_fewer more some = record { of_define = omega arith; inside = omega arith }

text_supplied : (levels : Levels) → Fewer all_levels levels → (number : ℕ) (names : Names) → Supplied Declares (item_form number names) (item_within levels number names)
unfolding item_form table_or declaration_form
text_supplied levels fewer number names = item_supplied all_levels levels fewer number names

with_supplied : (more : ℕ) → 0 < more → Supplied (List ItemTree) config_form (config_with more)
with_supplied more some =
    config_supplied item_form (item_within (levels_with more)) (text_supplied (levels_with more) (with_fewer more some)) (item_exchanges all_levels (levels_with more) (with_fewer more some))

with_clear : (more : ℕ) → ClearBy (IsSeen behind_else) (config_with more)
with_clear more = clear_config (item_within (levels_with more)) (sure_item_within (levels_with more))

with_steady : (more : ℕ) → Steady (config_with more)
with_steady more = steady_config (item_within (levels_with more)) (sure_item_within (levels_with more)) (item_begins_within (levels_with more)) (item_steady_within (levels_with more))

stop_is : (tokens : List Kind) (cause : Cause) (rest : List Kind) → scan config_form (spot (length tokens) tokens) ≡ stopped cause rest → NoneGoesOn tokens cause (length rest)
stop_is tokens cause rest e more some =
    let n = length tokens in
    let supplied = with_supplied more some in
    let text = config_has_text item_form (item_within (levels_with more)) (text_supplied (levels_with more) (with_fewer more some)) (item_exchanges all_levels (levels_with more) (with_fewer more some)) in
    let front = viable supplied text n tokens cause rest e in (
      stop_of config_form (config_with more) config_clear config_steady tokens n cause rest e front,
      λ levels.
          stop_of (config_with more) (config_with more) (with_clear more) (with_steady more) tokens n cause rest
          (stops_both (scan config_form (spot n tokens)) (scan (config_with more) (spot n tokens)) cause rest (goes supplied (spot n tokens)) e levels) front,
    )

pub config_stops : (tokens : List Kind) (cause : Cause) (left : ℕ) → read config_form tokens ≡ Err (cause, left) → IsRefused tokens ⊎ NoneGoesOn tokens cause left
config_stops tokens cause left e = by_end (subst (λ r. Agrees r (scan config_form (spot (length tokens) tokens))) e (agrees config_form tokens))
  where
    by_end : ((rest : List Kind) × (scan config_form (spot (length tokens) tokens) ≡ stopped cause rest) × (left ≡ length rest)) ⊎ ((rest : List Kind) × (scan config_form (spot (length tokens) tokens) ≡ refused rest)) → IsRefused tokens ⊎ NoneGoesOn tokens cause left
    by_end (inr (rest, refuses)) = inl (refused_at fails config_form config_clear (quiet_of config_form config_steady) tokens rest refuses)
    by_end (inl (rest, at, is)) = inr (subst (NoneGoesOn tokens cause) (sym is) (stop_is tokens cause rest at))

-- What is lawful, its places numbered by its tokens, is a configuration.

pub lawful_config : (tokens : List Kind) → IsLawful (length tokens) tokens → (c : List ItemTree) × Took config_form c tokens []
lawful_config tokens (c, last, lawful) = (c, lawful_took config_form c tokens (spot last []) lawful)

pub config_lawful : (tokens : List Kind) (c : List ItemTree) → Took config_form c tokens [] → IsLawful (length tokens) tokens
config_lawful tokens c took = (c, 0, took_lawful config_form c tokens [] took)
