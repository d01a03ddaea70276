-- What counts as an answer to a call of a link.
use Rattle.ixp_api_replies.specs.declared.outcome.Outcome.{Outcome}
use Rattle.ixp_api_replies.specs.declared.outcome.Outcome.TheVariants.{Done, Answered, Text, Called, Head, Refused, KeeperFault, SeenUnknown, NoRouter, NoSession, SeatCount, Ended, Held, TooManyHeld, HeldFamily, NotHeld, NoMemory}

-- neither a fault of the store, nor a seat whose turns can't be counted, nor running out of memory
abbrev pub IsReply : Outcome → Type 0
IsReply KeeperFault = ⊥
IsReply (SeatCount seat kept) = ⊥
IsReply (Ended count) = ⊥
IsReply NoMemory = ⊥
IsReply (Done n) = Unit {0}
IsReply (Answered a) = Unit {0}
IsReply (Text text) = Unit {0}
IsReply (Called fault) = Unit {0}
IsReply (Head status) = Unit {0}
IsReply (Refused x) = Unit {0}
IsReply (SeenUnknown n) = Unit {0}
IsReply NoRouter = Unit {0}
IsReply NoSession = Unit {0}
IsReply (Held n) = Unit {0}
IsReply (TooManyHeld have limit) = Unit {0}
IsReply (HeldFamily place) = Unit {0}
IsReply NotHeld = Unit {0}
