use Rattle.ixp_desk_laws.proofs.OwnReports.{explanations_alike, reports_alike}
use Rattle.ixp_desk_laws.proofs.members.members_are_explained_their_own.Goals as goal

pub returns : goal.returns
returns c = record { answer = explanations_alike; report = reports_alike }
