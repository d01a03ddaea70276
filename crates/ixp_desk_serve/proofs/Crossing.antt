-- A desk and a looking glass that threads share may be used by several of them.
use denote.RattleType.{RattleType}
use denote.Ref.{NamedLft}
use denote.Param.Send.{IsSend, IsSync, sendable}
use denote.Param.SendFields.{declared_sync}
use Rattle.std.proofs.Crossing.{crosses}
use Rattle.std.specs.contracts.sync.Mutex as Mutex
use Rattle.ixp_io.specs.declared.keeper.Keeper
use Rattle.ixp_board.specs.declared.front.BoardName
use Rattle.ixp_desk_lock.specs.contracts.locked.Locked as Locked
use Rattle.ixp_desk_lock.proofs.Sends.{locked_send}
use Rattle.ixp_desk.specs.contracts.shared.Shared as Shared
use Rattle.ixp_desk_explain.specs.contracts.glass.LookingGlass as LookingGlass
use Rattle.ixp_desk_explain.proofs.Sharing as GlassCrosses
use Rattle.ixp_desk_rtr.specs.contracts.cache.RoaCache as RoaCache
use Rattle.ixp_desk_rtr.proofs.cache.RoaCache.TheSendSync as CacheSends
use Rattle.ixp_desk_serve.specs.contracts.hosting.Hosting as Hosting
use Rattle.ixp_desk_serve.specs.contracts.hosting.Routers as Routers

module _ (P N W : RattleType) (k : Keeper.Ghosts P.Denot) (g : BoardName.Ghosts N.Denot) (p : IsSend P) (w : IsSend W) where
  pub lock_sync : IsSync (Mutex.the_row (Locked.the_row P N W k g))
  lock_sync = search (locked_send, crosses, sendable) depth 12

  pub shared_sync : IsSync (Shared.the_row P N W k g)
  shared_sync = search (lock_sync, crosses, sendable) depth 20

  module _ (M V : RattleType) (h : BoardName.Ghosts M.Denot) (v : IsSend V) (n : IsSend M) (m : IsSync M) where
    glass_sync : IsSync (LookingGlass.the_row M V h)
    glass_sync = GlassCrosses.glass_sync M V h v n m

    pub hosting_sync : (l : NamedLft) (G : RattleType) → IsSync G → IsSync (Hosting.the_row l P N M W V G k g h)
    hosting_sync l G s = search (shared_sync, glass_sync, crosses, sendable) depth 12

  module _ (n : IsSend N) (m : IsSync N) where
    cache_send : IsSend (RoaCache.the_row N g)
    cache_send = search (CacheSends.the_send, crosses, sendable) depth 12

    cache_sync : IsSync (Mutex.the_row (RoaCache.the_row N g))
    cache_sync = search (cache_send, crosses, sendable) depth 12

    pub routers_sync : (l : NamedLft) → IsSync (Routers.the_row l P N W k g)
    routers_sync l = declared_sync (Routers.the_type l P N W k g) (search (shared_sync, crosses, sendable) depth 20, (search (cache_sync, crosses, sendable) depth 20, tt))
