use Rattle.std.proofs.Common.{Ok, ap, ◌∙◌}
use Rattle.ixp_desk.proofs.HandedOut.{answers_text, headline}
use Rattle.ixp_desk.proofs.publishing.published.Goals as goal

pub returns-in-Ok-Some-clause-headline : goal.returns-in-Ok-Some-clause-headline
returns-in-Ok-Some-clause-headline g c = headline c.args.secret.now c.args.router.now c.args.seen c.in-Ok-Some.text c.args.seat.now c.handed_out.new.seat c.is_legal.ensures
    (answers_text c.args.secret.now c.args.router.now c.args.seen c.handed_out.result c.in-Ok-Some.text c.args.seat.now c.handed_out.new.seat (c.in-Ok-Some.is ∙ ap Ok c.in-Ok-Some.field-0-is) c.handed_out.ensures.hands)
