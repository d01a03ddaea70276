-- A looking glass that threads share may be used by several of them.
use denote.RattleType.{RattleType}
use denote.Param.Send.{IsSend, IsSync, sendable}
use denote.Param.SendFields.{declared_send, declared_sync, variants_send, variants_sync}
use Rattle.std.proofs.Crossing.{crosses}
use Rattle.std.specs.contracts.sync.Mutex as Mutex
use Rattle.ixp_num_tables.specs.contracts.held.Held as Held
use Rattle.ixp_num_tables.proofs.held.Held.TheSendSync as HeldSends
use Rattle.ixp_lang.specs.contracts.expr.Expr as Expr
use Rattle.ixp_lang.specs.contracts.stmt.Stmt as Stmt
use Rattle.ixp_lang.specs.contracts.item.Bgp as Bgp
use Rattle.ixp_lang.specs.contracts.item.Config as Config
use Rattle.ixp_lang.specs.contracts.item.Item as Item
use Rattle.ixp_lang.specs.contracts.item.Pipe as Pipe
use Rattle.ixp_lang.proofs.expr.Expr.TheLaws.TheKnot as ExprKnot
use Rattle.ixp_lang.proofs.stmt.Stmt.TheLaws.TheKnot as StmtKnot
use Rattle.ixp_explain.specs.contracts.reading.Reading as Reading
use Rattle.ixp_explain.specs.contracts.reading.Reading.TheInside as Inside
use Rattle.ixp_glass.proofs.sharing.SharedReports.TheSendSync as ReportsCross
use Rattle.ixp_glass_holds.proofs.sharing.GlassDesk.TheSendSync as HoldsCross
use Rattle.ixp_board.specs.declared.front.BoardName
use Rattle.ixp_desk_explain.specs.contracts.readings.Kept as Kept
use Rattle.ixp_desk_explain.specs.contracts.readings.Readings as Readings
use Rattle.ixp_desk_explain.specs.contracts.glass.LookingGlass as LookingGlass

expr_send : IsSend Expr.the_row
expr_send = search (crosses, ExprKnot.crosses, sendable) depth 60 fits 20000

stmt_send : IsSend Stmt.the_row
stmt_send = search (crosses, ExprKnot.crosses, StmtKnot.crosses, sendable) depth 60 fits 20000

pipe_send : IsSend Pipe.the_row
pipe_send = search (crosses, sendable) depth 60 fits 20000

bgp_send : IsSend Bgp.the_row
bgp_send = search (crosses, sendable) depth 60 fits 20000

-- a line for each kind of item, and a search for each of its fields
item_send : IsSend Item.the_row
item_send = variants_send Item.enum (
  (search (crosses, sendable) depth 30, tt),
  (
    (search (crosses, sendable) depth 30, (search (crosses, sendable) depth 30, tt)),
    (
      (search (crosses, sendable) depth 30, (search (expr_send, crosses, sendable) depth 30, tt)),
      (
        (search (crosses, sendable) depth 30, (search (crosses, sendable) depth 30, (search (stmt_send, crosses, sendable) depth 30, tt))),
        (
          (search (crosses, sendable) depth 30, (search (stmt_send, crosses, sendable) depth 30, tt)),
          (
            (search (crosses, sendable) depth 30, tt),
            (
              (search (pipe_send, crosses, sendable) depth 30, tt),
              (
                (search (bgp_send, crosses, sendable) depth 30, tt),
                tt,
              ),
            ),
          ),
        ),
      ),
    ),
  ),
)

config_send : IsSend Config.the_row
config_send = declared_send Config.the_type (search (item_send, crosses, sendable) depth 30, tt)

expr_sync : IsSync Expr.the_row
expr_sync = search (crosses, ExprKnot.crosses, sendable) depth 60 fits 20000

stmt_sync : IsSync Stmt.the_row
stmt_sync = search (crosses, ExprKnot.crosses, StmtKnot.crosses, sendable) depth 60 fits 20000

pipe_sync : IsSync Pipe.the_row
pipe_sync = search (crosses, sendable) depth 60 fits 20000

bgp_sync : IsSync Bgp.the_row
bgp_sync = search (crosses, sendable) depth 60 fits 20000

-- a line for each kind of item, and a search for each of its fields
item_sync : IsSync Item.the_row
item_sync = variants_sync Item.enum (
  (search (crosses, sendable) depth 30, tt),
  (
    (search (crosses, sendable) depth 30, (search (crosses, sendable) depth 30, tt)),
    (
      (search (crosses, sendable) depth 30, (search (expr_sync, crosses, sendable) depth 30, tt)),
      (
        (search (crosses, sendable) depth 30, (search (crosses, sendable) depth 30, (search (stmt_sync, crosses, sendable) depth 30, tt))),
        (
          (search (crosses, sendable) depth 30, (search (stmt_sync, crosses, sendable) depth 30, tt)),
          (
            (search (crosses, sendable) depth 30, tt),
            (
              (search (pipe_sync, crosses, sendable) depth 30, tt),
              (
                (search (bgp_sync, crosses, sendable) depth 30, tt),
                tt,
              ),
            ),
          ),
        ),
      ),
    ),
  ),
)

config_sync : IsSync Config.the_row
config_sync = declared_sync Config.the_type (search (item_sync, crosses, sendable) depth 30, tt)

inside_send : IsSend Inside.the_row
inside_send = declared_send Inside.the_type (search (crosses, sendable) depth 20, (config_send, tt))

inside_sync : IsSync Inside.the_row
inside_sync = declared_sync Inside.the_type (search (crosses, sendable) depth 20, (config_sync, tt))

reading_send : IsSend Reading.the_row
reading_send = search (inside_send, sendable) depth 10

reading_sync : IsSync Reading.the_row
reading_sync = search (inside_sync, sendable) depth 10

held_send : IsSend (Held.the_row Reading.the_row)
held_send = HeldSends.the_send Reading.the_row reading_send reading_sync

kept_send : IsSend Kept.the_row
kept_send = search (held_send, crosses, sendable) depth 20

lock_sync : IsSync (Mutex.the_row Kept.the_row)
lock_sync = search (kept_send, crosses, sendable) depth 12

readings_sync : IsSync Readings.the_row
readings_sync = search (lock_sync, crosses, sendable) depth 12

module _ (M V : RattleType) (h : BoardName.Ghosts M.Denot) (v : IsSend V) (n : IsSend M) (m : IsSync M) where
  pub glass_sync : IsSync (LookingGlass.the_row M V h)
  glass_sync = declared_sync (LookingGlass.the_type M V h) (search (HoldsCross.the_sync, crosses, sendable) depth 12, (ReportsCross.the_sync, (readings_sync, tt)))
