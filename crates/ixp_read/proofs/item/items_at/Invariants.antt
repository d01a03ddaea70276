use Rattle.std.proofs.Common.{◌≡◌, ◌≤◌, ℕ, length}
use Rattle.ixp_lang_tokens.specs.Reading.{read, kinds, read_rounds}
use Rattle.ixp_lang_exprs.specs.Names.{names_of}
use Rattle.ixp_read.specs.Items.{config_round, config_form}
use Rattle.ixp_read.specs.Views.{begun_of}
use Rattle.ixp_read.proofs.item.items_at.Given as goal

abbrev pub invariant-each : goal.invariant-each
invariant-each l = (k : ℕ) × (length l.left ≤ k) × (read_rounds k (λ s ts. read (config_round s) ts) (begun_of l.items.items (names_of l.env)) (kinds l.left) ≡ read config_form (kinds l.tokens))

abbrev pub decreases-each : goal.decreases-each
decreases-each l = length l.left
