use Rattle.std.proofs.Common.{◌≡◌, ◌∷◌, ◌||◌, Some, sym, ap, ◌∙◌, subst}
use Rattle.std.specs.BTreeMap.{UpdatesBy, get_by}
use Rattle.std.specs.Option.{is_some}
use Rattle.ixp_rpsl.specs.Expansion.{is_among}
use Rattle.ixp_rpsl.specs.Lookups.{sought}
use Rattle.ixp_rpsl.proofs.Keys.{in_order}
use Rattle.ixp_rpsl_sources.proofs.Places.{word_marked}
use Rattle.ixp_rpsl_sources.proofs.claims.words_of.Goals as goal

pub words-preserved : goal.words-preserved
words-preserved c = λ q.
    let left : c.words.left.now ≡ c.in-Some.word.now ∷ c.in-Some.others.now = c.in-Some.ensures.cases.0 in
    let updates : UpdatesBy in_order (sought c.in-Some.word.now) c.words.marks c.insert.new.self (Some tt) =
    subst (λ bytes. UpdatesBy in_order (sought bytes) c.words.marks c.insert.new.self (Some tt)) (c.in_ok-key.ensures.items ∙ c.as_slice.ensures) c.in_ok-insert.ensures.updates in
    word_marked c.words.marks c.insert.new.self c.in-Some.word.now c.in-Some.others.now updates q
    ∙ (ap (λ l. is_some (get_by (sought q) c.words.marks) || is_among l q) (sym left) ∙ c.words.invariant q)
