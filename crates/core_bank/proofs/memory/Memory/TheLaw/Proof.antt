-- A `&` to a memory is made where one to its words is.
use mir.Syntax.{w64}
use mir.Raw.{raw as bare}
use base.Fraction.{full_share}
use denote.Array.{Array, Array-row_laws}
use denote.Builtin.{u64}
use denote.Memory.{lone}
use denote.Plain.{uint_row_laws}
use denote.RawPtr.{lies_at}
use denote.Shares.{Shares-Array}
use denote.Struct.Field.{RawPtr-field}
use denote.Struct.Laws.{RawPtr-copy, u64-copy}
use denote.Struct.Lending.{lent_at, lent_at_shr_laws, Lends-lies, Lends-first, of_Lends}
use denote.Param.Shared.{copy_shared}
use Rattle.std.specs.contracts.impls.GlobalAllocator.TheImpl.{ghosts}
use Rattle.std.specs.contracts.alloc.Global as heap
use Rattle.std.proofs.alloc.Global.TheLaws as heap_laws
use Rattle.core_bank.specs.contracts.memory.Memory as C
use Rattle.core_bank.proofs.memory.Memory.TheLaw.Statement.{statement}

pub shares : statement
shares = of_Lends C.struct (C.the_codes heap.the_row.coded) C.the_heap C.the_lent (λ d p. lent_at_shr_laws (Array u64 32768) (Array-row_laws u64 (uint_row_laws w64) 32768) d.at d.words) (copy_shared RawPtr-field RawPtr-copy, (heap_laws.the_field_shared, tt)) (λ M 𝓤 𝓛 d p.
    let l = C.the_row.lives in
    Lends-first 𝓛 (lies_at (Array u64 32768) full_share d.at d.words) (ghosts.dealloc_token d.alloc (bare (lone (Array u64 32768).mir)) d.at) (lent_at (Array u64 32768) d.at d.words) l
    (Lends-lies 𝓛 (Array u64 32768) l d.at d.words (Shares-Array 𝓛 u64 tt 32768 l ((u64-copy.copied M 𝓤 𝓛).shares full_share l) d.words)))
