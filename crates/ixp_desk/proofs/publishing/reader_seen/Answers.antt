use Rattle.std.proofs.Common.{ap, sym, ◌∙◌, subst}
use Rattle.ixp_members.specs.Owners.{owner_in}
use Rattle.ixp_desk_history.specs.declared.turn.Shown.{Shown}
use Rattle.ixp_desk.specs.Publications.{IsReader, reader_of}
use Rattle.ixp_desk.proofs.Views.{reader_seen}
use Rattle.ixp_desk.proofs.publishing.reader_seen.Goals as goal

pub returns : goal.returns
returns g c =
    let keys = c.get-2.ensures ∙ ap (λ (w : Shown). w.keys) c.get.ensures in
    subst (IsReader c.args.seat.now.2 c.args.secret.now) (sym c.reader.ensures)
    (subst (λ ks. IsReader c.args.seat.now.2 c.args.secret.now (reader_of (owner_in ks c.args.secret.now))) (sym keys)
    (reader_seen c.args.seat.now.2 c.view.result.now c.view.ensures c.args.secret.now))
