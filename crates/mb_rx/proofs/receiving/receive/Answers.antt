use Rattle.std.proofs.Common.{rules, ap, Some, Err}
use Rattle.mb_rx.proofs.RunLemmas.{refused_words, Refuses-as, refuses-no_air, refuses-no_read, refuses-no_store, no_memory, received_with, receives_of_store, receives_of_sink, no_names}
use Rattle.mb_rx.proofs.WordLemmas.{few_workers}
use Rattle.mb_rx.proofs.receiving.receive.Goals as goal

pub receive_with-requires-clause-workers : goal.receive_with-requires-clause-workers
receive_with-requires-clause-workers g c = let few = few_workers _ c.in-Ok.values c.in-Ok.ensures.read in search rules

pub returns-in-Ok-clause-received : goal.returns-in-Ok-clause-received
returns-in-Ok-clause-received g c = received_with _ c.in-Ok.values _ _ _ _ _ _ _ c.in-Ok.ensures.read c.receive_with.ensures.received

pub returns-in-Ok-clause-store_fault : goal.returns-in-Ok-clause-store_fault
returns-in-Ok-clause-store_fault g c = λ failed. receives_of_store (Some c.in-Ok.values) _ _ _ _ _ _ _ c.receive_with.ensures.received failed

pub returns-in-Ok-clause-out_fault : goal.returns-in-Ok-clause-out_fault
returns-in-Ok-clause-out_fault g c = λ failed. receives_of_sink (Some c.in-Ok.values) _ _ _ _ _ _ _ c.receive_with.ensures.received failed

pub returns-in-Ok-clause-unread_tables : goal.returns-in-Ok-clause-unread_tables
returns-in-Ok-clause-unread_tables g c = λ none. c.receive_with.ensures.unread (no_names _ c.in-Ok.values c.in-Ok.ensures.read none)

pub returns-in-Err-Refused-clause-received : goal.returns-in-Err-Refused-clause-received
returns-in-Err-Refused-clause-received g c =
    refused_words _ _ _ _ _ _ _ (c.in-Err-Refused.ensures.refused (ap Err c.in-Err-Refused.field-0-is))
    (Refuses-as (g.S.Store.files c.args.store.now) (g.S.Store.faults c.args.store.now) _ _ _ _ c.refuse.result c.refuse.ensures.refused c.refuse.ensures.later c.refuse.ensures.fault)

pub returns-in-Err-Refused-clause-air_fault : goal.returns-in-Err-Refused-clause-air_fault
returns-in-Err-Refused-clause-air_fault g c = λ air. absurd (refuses-no_air _ _ c.refuse.result c.refuse.ensures.refused air)

pub returns-in-Err-Refused-clause-read_fault : goal.returns-in-Err-Refused-clause-read_fault
returns-in-Err-Refused-clause-read_fault g c = λ failed. absurd (refuses-no_read _ _ c.refuse.result c.refuse.ensures.refused failed)

pub returns-in-Err-Refused-clause-store_fault : goal.returns-in-Err-Refused-clause-store_fault
returns-in-Err-Refused-clause-store_fault g c = λ failed. absurd (refuses-no_store _ _ c.refuse.result c.refuse.ensures.refused failed)

pub returns-in-Err-Memory-clause-received : goal.returns-in-Err-Memory-clause-received
returns-in-Err-Memory-clause-received g c = no_memory _ _ _ _ _
