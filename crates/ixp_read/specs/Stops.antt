-- Where no configuration goes on: as far as syntax tells, or for what is checked of names, types, ranges and
-- levels.
use Rattle.std.specs.Prelude.{◌≡◌, ℕ, ◌+◌, ◌<◌, List, length}
use Rattle.ixp_lang.specs.Trees.{ItemTree}
use Rattle.ixp_lang_tokens.specs.declared.fault.Cause.{Cause}
use Rattle.ixp_lang_tokens.specs.declared.fault.Cause.TheVariants.{Deep}
use Rattle.ixp_lang_tokens.specs.declared.token.Kind.{Kind}
use Rattle.ixp_lang_tokens.specs.Grammars.{Grammar}
use Rattle.ixp_lang_tokens.specs.Syntax.{IsFineText, IsLawfulText, StopsAt, RefusedAt}
use Rattle.ixp_read.specs.Functions.{levels_inside}
use Rattle.ixp_read.specs.Items.{define_levels, item_within, config_of, config_form}

-- a configuration that may have so many levels more than others
abbrev pub config_with : ℕ → Grammar (List ItemTree)
config_with more =
    config_of (item_within (record { of_define = define_levels + more; inside = levels_inside + more }))

-- the tokens are a configuration by their syntax; places are numbered from so many down
abbrev pub IsFine : ℕ → List Kind → Type 0
IsFine = IsFineText config_form

-- or one that has so many levels more
abbrev pub IsFineWith : ℕ → ℕ → List Kind → Type 0
IsFineWith more = IsFineText (config_with more)

-- the tokens are a configuration; places are numbered from so many down
abbrev pub IsLawful : ℕ → List Kind → Type 0
IsLawful = IsLawfulText config_form

-- a check of names, types, ranges or levels refuses the tokens, and all that begin as they do, up to the
-- token that is next there
abbrev pub IsRefused : List Kind → Type 0
IsRefused = RefusedAt config_form

-- With so many tokens left no configuration goes on: some configuration begins with what is before the place,
-- with a level more than there may be perhaps, and none with what is before it and the token there. If the
-- cause isn't that there are too many levels, none with more of them does either.
abbrev pub NoneGoesOn : List Kind → Cause → ℕ → Type 0
NoneGoesOn tokens cause left =
    (more : ℕ) → 0 < more
    → StopsAt (IsFineWith more (length tokens)) (IsFine (length tokens)) tokens left
    × (¬ (cause ≡ Deep) → StopsAt (IsFineWith more (length tokens))
    (IsFineWith more (length tokens)) tokens left)
