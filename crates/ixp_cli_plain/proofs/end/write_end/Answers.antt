use Rattle.std.proofs.Common.{ℕ, List, [], ◌∷◌, ◌++◌, codes, sym, subst, OnOk, OnErr}
use Rattle.ixp_io.specs.Told.{Takes, TakesPart}
use Rattle.ixp_cli_plain.specs.declared.end.End.{End}
use Rattle.ixp_cli_plain.specs.Runs.{error_text}
use Rattle.ixp_cli_plain.proofs.end.write_end.Goals as goal

pub returns-in-Usage-clause-err : goal.returns-in-Usage-clause-err
returns-in-Usage-clause-err g c =
    subst (λ (e : End). OnErr c.write_all-in-Usage.result (TakesPart (g.E.Stream.written c.args.errors.now) (g.E.Stream.written c.write_all-in-Usage.new.sink) (error_text e))) (sym c.in-Usage.is) c.write_all-in-Usage.ensures.err

pub returns-in-BadObjects-clause-ok : goal.returns-in-BadObjects-clause-ok
returns-in-BadObjects-clause-ok g c =
    subst (λ (e : End). OnOk c.write_objects_cause.result (Takes (g.E.Stream.written c.args.errors.now) (g.E.Stream.written c.write_objects_cause.new.errors) (error_text e))) (sym c.in-BadObjects.is) c.write_objects_cause.ensures.ok

pub returns-in-BadObjects-clause-err : goal.returns-in-BadObjects-clause-err
returns-in-BadObjects-clause-err g c =
    subst (λ (e : End). OnErr c.write_objects_cause.result (TakesPart (g.E.Stream.written c.args.errors.now) (g.E.Stream.written c.write_objects_cause.new.errors) (error_text e))) (sym c.in-BadObjects.is) c.write_objects_cause.ensures.err

pub returns-in-WriteFault-clause-ok : goal.returns-in-WriteFault-clause-ok
returns-in-WriteFault-clause-ok g c =
    subst (λ (e : End). OnOk c.write_all-in-WriteFault.result (Takes (g.E.Stream.written c.args.errors.now) (g.E.Stream.written c.write_all-in-WriteFault.new.sink) (error_text e))) (sym c.in-WriteFault.is) c.write_all-in-WriteFault.ensures.ok

pub returns-in-WriteFault-clause-err : goal.returns-in-WriteFault-clause-err
returns-in-WriteFault-clause-err g c =
    subst (λ (e : End). OnErr c.write_all-in-WriteFault.result (TakesPart (g.E.Stream.written c.args.errors.now) (g.E.Stream.written c.write_all-in-WriteFault.new.sink) (error_text e))) (sym c.in-WriteFault.is) c.write_all-in-WriteFault.ensures.err

pub returns-in-NoMemory-clause-ok : goal.returns-in-NoMemory-clause-ok
returns-in-NoMemory-clause-ok g c =
    subst (λ (e : End). OnOk c.write_all-in-NoMemory.result (Takes (g.E.Stream.written c.args.errors.now) (g.E.Stream.written c.write_all-in-NoMemory.new.sink) (error_text e))) (sym c.in-NoMemory.is) c.write_all-in-NoMemory.ensures.ok

pub returns-in-NoMemory-clause-err : goal.returns-in-NoMemory-clause-err
returns-in-NoMemory-clause-err g c =
    subst (λ (e : End). OnErr c.write_all-in-NoMemory.result (TakesPart (g.E.Stream.written c.args.errors.now) (g.E.Stream.written c.write_all-in-NoMemory.new.sink) (error_text e))) (sym c.in-NoMemory.is) c.write_all-in-NoMemory.ensures.err

pub returns-in-UnknownRouter-clause-ok : goal.returns-in-UnknownRouter-clause-ok
returns-in-UnknownRouter-clause-ok g c =
    subst (λ (e : End). OnOk c.write_named.result (Takes (g.E.Stream.written c.args.errors.now) (g.E.Stream.written c.write_named.new.errors) (error_text e))) (sym c.in-UnknownRouter.is)
    (subst (λ (n : List ℕ). OnOk c.write_named.result (Takes (g.E.Stream.written c.args.errors.now) (g.E.Stream.written c.write_named.new.errors) (codes "ixpm: unknown router " ++ (n ++ 10 ∷ []))))
    c.as_bytes.ensures.bytes c.write_named.ensures.ok)

pub returns-in-UnknownRouter-clause-err : goal.returns-in-UnknownRouter-clause-err
returns-in-UnknownRouter-clause-err g c =
    subst (λ (e : End). OnErr c.write_named.result (TakesPart (g.E.Stream.written c.args.errors.now) (g.E.Stream.written c.write_named.new.errors) (error_text e))) (sym c.in-UnknownRouter.is)
    (subst (λ (n : List ℕ). OnErr c.write_named.result (TakesPart (g.E.Stream.written c.args.errors.now) (g.E.Stream.written c.write_named.new.errors) (codes "ixpm: unknown router " ++ (n ++ 10 ∷ []))))
    c.as_bytes.ensures.bytes c.write_named.ensures.err)

pub returns-in-KeeperFault-clause-ok : goal.returns-in-KeeperFault-clause-ok
returns-in-KeeperFault-clause-ok g c =
    subst (λ (e : End). OnOk c.write_all-in-KeeperFault.result (Takes (g.E.Stream.written c.args.errors.now) (g.E.Stream.written c.write_all-in-KeeperFault.new.sink) (error_text e))) (sym c.in-KeeperFault.is) c.write_all-in-KeeperFault.ensures.ok

pub returns-in-KeeperFault-clause-err : goal.returns-in-KeeperFault-clause-err
returns-in-KeeperFault-clause-err g c =
    subst (λ (e : End). OnErr c.write_all-in-KeeperFault.result (TakesPart (g.E.Stream.written c.args.errors.now) (g.E.Stream.written c.write_all-in-KeeperFault.new.sink) (error_text e))) (sym c.in-KeeperFault.is) c.write_all-in-KeeperFault.ensures.err

pub returns-in-NotEmpty-clause-ok : goal.returns-in-NotEmpty-clause-ok
returns-in-NotEmpty-clause-ok g c =
    subst (λ (e : End). OnOk c.write_all-in-NotEmpty.result (Takes (g.E.Stream.written c.args.errors.now) (g.E.Stream.written c.write_all-in-NotEmpty.new.sink) (error_text e))) (sym c.in-NotEmpty.is) c.write_all-in-NotEmpty.ensures.ok

pub returns-in-NotEmpty-clause-err : goal.returns-in-NotEmpty-clause-err
returns-in-NotEmpty-clause-err g c =
    subst (λ (e : End). OnErr c.write_all-in-NotEmpty.result (TakesPart (g.E.Stream.written c.args.errors.now) (g.E.Stream.written c.write_all-in-NotEmpty.new.sink) (error_text e))) (sym c.in-NotEmpty.is) c.write_all-in-NotEmpty.ensures.err

pub returns-in-Damaged-clause-ok : goal.returns-in-Damaged-clause-ok
returns-in-Damaged-clause-ok g c =
    subst (λ (e : End). OnOk c.write_named-in-Damaged.result (Takes (g.E.Stream.written c.args.errors.now) (g.E.Stream.written c.write_named-in-Damaged.new.errors) (error_text e))) (sym c.in-Damaged.is)
    (subst (λ (n : List ℕ). OnOk c.write_named-in-Damaged.result (Takes (g.E.Stream.written c.args.errors.now) (g.E.Stream.written c.write_named-in-Damaged.new.errors) (codes "ixpm: damaged " ++ (n ++ 10 ∷ []))))
    c.as_slice.ensures c.write_named-in-Damaged.ensures.ok)

pub returns-in-Damaged-clause-err : goal.returns-in-Damaged-clause-err
returns-in-Damaged-clause-err g c =
    subst (λ (e : End). OnErr c.write_named-in-Damaged.result (TakesPart (g.E.Stream.written c.args.errors.now) (g.E.Stream.written c.write_named-in-Damaged.new.errors) (error_text e))) (sym c.in-Damaged.is)
    (subst (λ (n : List ℕ). OnErr c.write_named-in-Damaged.result (TakesPart (g.E.Stream.written c.args.errors.now) (g.E.Stream.written c.write_named-in-Damaged.new.errors) (codes "ixpm: damaged " ++ (n ++ 10 ∷ []))))
    c.as_slice.ensures c.write_named-in-Damaged.ensures.err)

pub returns-in-OldVersion-clause-ok : goal.returns-in-OldVersion-clause-ok
returns-in-OldVersion-clause-ok g c =
    subst (λ (e : End). OnOk c.write_counted.result (Takes (g.E.Stream.written c.args.errors.now) (g.E.Stream.written c.write_counted.new.errors) (error_text e))) (sym c.in-OldVersion.is) c.write_counted.ensures.ok

pub returns-in-OldVersion-clause-err : goal.returns-in-OldVersion-clause-err
returns-in-OldVersion-clause-err g c =
    subst (λ (e : End). OnErr c.write_counted.result (TakesPart (g.E.Stream.written c.args.errors.now) (g.E.Stream.written c.write_counted.new.errors) (error_text e))) (sym c.in-OldVersion.is) c.write_counted.ensures.err
