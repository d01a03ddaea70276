-- A link that was served by a seat of a desk and one of a looking glass.
use Rattle.std.specs.Prelude.{ℕ, List, Option}
use Rattle.ixp_io.specs.Told.{WhereTold}
use Rattle.ixp_http_link.specs.declared.ends.Served.{Served}
use Rattle.ixp_http_link.specs.Left.{Leaves}
use Rattle.ixp_http_link.specs.Links.{Serves}
use Rattle.ixp_http_link.specs.Whole.{IsComplete, IsExact}
use Rattle.ixp_desk_explain.specs.Glass.{Sights}
use Rattle.ixp_desk_link.specs.Turns.{LinkTurn, SeesMore}

-- What the seats had seen and the clock had given before and after the link, what was left to read and what
-- was written before and after it, and whether reads or writes failed. Each request was answered by turns of
-- the seats, its reply was written in its place, and nothing was read behind the last one. Where the link's
-- bytes are known, they alone say how it ends and which requests are answered, unless something fails; and
-- whole requests all get their replies.
pub record IsServed (d e : Sights × Option ℕ) (left left' written written' : Option (List ℕ))
    (unread unwritten : Type 0) (served : Served) : Type 0 where
  pub serves : Serves LinkTurn d e left written written' unread unwritten served
  pub leaves : Leaves left left' served
  pub exact : WhereTold left (λ bytes. IsExact LinkTurn d e bytes written written' served)
  pub complete : WhereTold left
      (λ bytes. IsComplete LinkTurn d e bytes written written' unread unwritten served)
  pub sees : SeesMore d.0 e.0
