use Rattle.std.proofs.Common.{◌≡◌, ◌∙◌, ◌++◌, [], ◌∷◌, sym, ap, append_assoc}
use Rattle.std.proofs.lemmas.List.{append-nil}
use Rattle.std.specs.FinMap.{from_entries, insert}
use Rattle.ixp_io.proofs.Rows.{copied-table_of}
use Rattle.ixp_io.proofs.mem_keeper.copy_rows.Goals as goal

pub loop-name-init : goal.loop-name-init
loop-name-init c = ([], sym (append-nil c.iter-rest.result ∙ c.iter-rest.ensures.rest), c.empty_rows-copy.ensures)

pub loop-name-preserved : goal.loop-name-preserved
loop-name-preserved c =
    let done = c.loop-name.invariant.0 in
    let all = c.loop-name.invariant.1 in
    let last : c.loop-name.rest ≡ c.next_back.new.self ++ (c.in-Some.name.now, c.in-Some.body.now) ∷ [] = c.in-Some.ensures.steps in
    ((c.in-Some.name.now, c.in-Some.body.now) ∷ done, all ∙ ap (λ t. t ++ done) last ∙ append_assoc c.next_back.new.self ((c.in-Some.name.now, c.in-Some.body.now) ∷ []) done, c.in_ok-put.ensures ∙ ap (λ t. insert t c.in-Some.name.now c.in-Some.body.now) c.loop-name.invariant.2)

pub returns : goal.returns
returns c =
    let all : c.args.rows.now.entries ≡ c.loop-name.invariant.0 = c.loop-name.invariant.1 ∙ ap (λ t. t ++ c.loop-name.invariant.0) c.in_default.ensures.steps.0 in
    c.loop-name.invariant.2 ∙ ap from_entries (sym all) ∙ copied-table_of c.args.rows.now.entries c.iter-rest.ensures.ordered
