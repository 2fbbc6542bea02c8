use Rattle.std.proofs.Common.{refl, rules}
use Rattle.user_session.specs.Stores.{stored}
use Rattle.user_session.proofs.Enters.{over_these}
use Rattle.user_session.proofs.session.Session.answer_call.Goals as goal

pub returns-in_ok-read_line-in-ReadLine-clause-row : goal.returns-in_ok-read_line-in-ReadLine-clause-row
returns-in_ok-read_line-in-ReadLine-clause-row g c = let fs = g.P.FilePort.files c.args.files.now in let are = g.met.P.FilePort.is_known c.args.files.now c.requires.own.usable in over_these _ _ _ _ are are (rw c.in-ReadLine.is (c.in_ok-read_line-in-ReadLine.ensures.row fs c.args.now))

pub returns-in_ok-write_line-in-WriteLine-clause-row : goal.returns-in_ok-write_line-in-WriteLine-clause-row
returns-in_ok-write_line-in-WriteLine-clause-row g c = let fs = g.P.FilePort.files c.args.files.now in let are = g.met.P.FilePort.is_known c.args.files.now c.requires.own.usable in over_these _ _ _ _ are are (rw c.in-WriteLine.is (c.in_ok-write_line-in-WriteLine.ensures.row fs c.args.now))

pub returns-in-GetTime-clause-row : goal.returns-in-GetTime-clause-row
returns-in-GetTime-clause-row g c = let fs = g.P.FilePort.files c.args.files.now in let are = g.met.P.FilePort.is_known c.args.files.now c.requires.own.usable in over_these _ _ _ _ are are (rw c.in-GetTime.is (c.tell_time.ensures.row (stored (g.M.MemoryPort.words c.args.core.now) fs) c.requires.can.size))

pub returns-in-GetMemory-clause-row : goal.returns-in-GetMemory-clause-row
returns-in-GetMemory-clause-row g c = let fs = g.P.FilePort.files c.args.files.now in let are = g.met.P.FilePort.is_known c.args.files.now c.requires.own.usable in over_these _ _ _ _ are are (rw c.in-GetMemory.is (c.tell_memory.ensures.row (stored (g.M.MemoryPort.words c.args.core.now) fs) c.args.now c.requires.can.size))

pub returns-in-SetMemory-clause-row : goal.returns-in-SetMemory-clause-row
returns-in-SetMemory-clause-row g c = let fs = g.P.FilePort.files c.args.files.now in let are = g.met.P.FilePort.is_known c.args.files.now c.requires.own.usable in over_these _ _ _ _ are are (rw c.in-SetMemory.is (c.set_memory.ensures.row (stored (g.M.MemoryPort.words c.args.core.now) fs) c.args.now c.requires.can.size))

pub returns-in_ok-end_dead-in-Dead-clause-row : goal.returns-in_ok-end_dead-in-Dead-clause-row
returns-in_ok-end_dead-in-Dead-clause-row g c = let fs = g.P.FilePort.files c.args.files.now in let are = g.met.P.FilePort.is_known c.args.files.now c.requires.own.usable in over_these _ _ _ _ are are (rw c.in-Dead.is (c.in_ok-end_dead-in-Dead.ensures.row (stored (g.M.MemoryPort.words c.args.core.now) fs) c.args.now))

pub returns-in_ok-end_dormant-in-Dormant-clause-row : goal.returns-in_ok-end_dormant-in-Dormant-clause-row
returns-in_ok-end_dormant-in-Dormant-clause-row g c = let fs = g.P.FilePort.files c.args.files.now in let are = g.met.P.FilePort.is_known c.args.files.now c.requires.own.usable in over_these _ _ _ _ are are (rw c.in-Dormant.is (c.in_ok-end_dormant-in-Dormant.ensures.row (stored (g.M.MemoryPort.words c.args.core.now) fs) c.args.now c.requires.can.size))

pub returns-in-FileStat-clause-row : goal.returns-in-FileStat-clause-row
returns-in-FileStat-clause-row g c = let are = g.met.P.FilePort.is_known c.args.files.now c.requires.own.usable in over_these _ _ _ _ are are (rw c.in-FileStat.is (c.tell_file.ensures.row _ _ c.requires.can.size))

pub returns-in-DeleteFile-clause-row : goal.returns-in-DeleteFile-clause-row
returns-in-DeleteFile-clause-row g c = let row = c.delete_file.ensures.row (g.M.MemoryPort.words c.args.core.now) c.args.now c.requires.can.size in search rules

pub returns-in-RenameFile-clause-row : goal.returns-in-RenameFile-clause-row
returns-in-RenameFile-clause-row g c = let row = c.rename_file.ensures.row (g.M.MemoryPort.words c.args.core.now) c.args.now c.requires.can.size in search rules

pub returns-in-ChangeMode-clause-row : goal.returns-in-ChangeMode-clause-row
returns-in-ChangeMode-clause-row g c = let row = c.change_mode.ensures.row (g.M.MemoryPort.words c.args.core.now) c.args.now c.requires.can.size in search rules

pub returns-in-ReadFile-clause-row : goal.returns-in-ReadFile-clause-row
returns-in-ReadFile-clause-row g c = let row = c.read_file.ensures.row c.args.now in search rules

pub returns-in-WriteFile-clause-row : goal.returns-in-WriteFile-clause-row
returns-in-WriteFile-clause-row g c = let row = c.write_file.ensures.row c.args.now in search rules

pub returns-in_ok-ask_common-in-Common-clause-row : goal.returns-in_ok-ask_common-in-Common-clause-row
returns-in_ok-ask_common-in-Common-clause-row g c = let fs = g.P.FilePort.files c.args.files.now in let are = g.met.P.FilePort.is_known c.args.files.now c.requires.own.usable in over_these _ _ _ _ are are (rw c.in-Common.is (c.in_ok-ask_common-in-Common.ensures.row fs c.args.now))
