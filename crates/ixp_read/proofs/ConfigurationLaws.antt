-- What is a configuration is read, and in one way.
use Rattle.std.proofs.Common.{◌≡◌, ℕ, zero, suc, inl, inr, false, List, [], ◌∷◌, Ok, sym, subst}
use Rattle.ixp_lang.specs.Trees.{ItemTree}
use Rattle.ixp_lang_tokens.specs.declared.token.Kind.{Kind}
use Rattle.ixp_lang_tokens.specs.Grammars.{done, Rounds, Took}
use Rattle.ixp_lang_tokens.specs.Reading.{read}
use Rattle.ixp_lang_tokens.proofs.Parted.{Extends, Parted}
use Rattle.ixp_lang_tokens.proofs.Clear.{IsSeen}
use Rattle.ixp_lang_tokens.proofs.ClearLooks.{it_goes, clear_parted}
use Rattle.ixp_lang_tokens.proofs.Fines.{goes_no_end_by}
use Rattle.ixp_lang_tokens.proofs.Laws.{sound, complete, one_reading}
use Rattle.ixp_read.specs.Items.{Begun, is_more, config_round, config_form}
use Rattle.ixp_lang_exprs.proofs.Sure.{behind_else}
use Rattle.ixp_read.proofs.SureItems.{config_clear}

config_parted : Parted config_form
config_parted = clear_parted (IsSeen behind_else) config_form config_clear

-- at the end of a text nothing goes on with it
config_ends : (c : List ItemTree) → ¬ (Extends config_form c [])
config_ends c p = goes_no_end_by (λ t seen. seen.0) config_form config_clear c (it_goes config_form c [] p)

pub config_read : (tokens : List Kind) (c : List ItemTree) → Took config_form c tokens [] → read config_form tokens ≡ Ok (c, [])
config_read tokens c took = complete config_form config_parted c tokens [] took (config_ends c)

pub one_config : (tokens : List Kind) (c d : List ItemTree) → Took config_form c tokens [] → Took config_form d tokens [] → c ≡ d
one_config tokens c d p q = (one_reading config_form config_parted c d tokens [] [] p q (config_ends c) (config_ends d)).0

-- behind a configuration there are no tokens

no_more : (tokens rest : List Kind) → is_more tokens ≡ false → tokens ≡ rest → rest ≡ []
no_more [] rest none same = sym same
no_more (k ∷ tokens) rest none same = absurd cc

last_round : (before : Begun) (c : List ItemTree) (tokens rest : List Kind) → Took (config_round before) (done c) tokens rest → rest ≡ []
last_round before c tokens rest (inl (declares, mid, item, (same, end))) = absurd cc
last_round before c tokens rest (inr (none, (same, end))) = no_more tokens rest none end

rounds_end : (n : ℕ) (before : Begun) (c : List ItemTree) (tokens rest : List Kind) → Rounds (λ s. Took (config_round s)) n before c tokens rest → rest ≡ []
rounds_end zero before c tokens rest took = last_round before c tokens rest took
rounds_end (suc n) before c tokens rest (next, mid, took, more) = rounds_end n next c mid rest more

whole : (c : List ItemTree) (tokens rest : List Kind) → Took config_form c tokens rest → rest ≡ []
whole c tokens rest (n, took) = rounds_end n _ c tokens rest took

pub config_whole : (tokens : List Kind) (c : List ItemTree) (rest : List Kind) → read config_form tokens ≡ Ok (c, rest) → rest ≡ []
config_whole tokens c rest e = whole c tokens rest (sound config_form tokens c rest e)

pub config_spelt : (tokens : List Kind) (c : List ItemTree) (rest : List Kind) → read config_form tokens ≡ Ok (c, rest) → Took config_form c tokens []
config_spelt tokens c rest e = let took = sound config_form tokens c rest e in subst (λ r. Took config_form c tokens r) (whole c tokens rest took) took
