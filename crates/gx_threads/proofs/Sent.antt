-- All threads may reach the nodes' cells behind their locks, where a journal may go to another thread.
use denote.RattleType.{RattleType}
use denote.Param.Send.{IsSend, IsSync, recorded_send, sendable, struct_send}
use denote.Struct.Declared as shape
use denote.Struct.Struct.{Struct}
use Rattle.std.proofs.Crossing.{frees}
use Rattle.std.proofs.alloc.Global.TheSendSync as heap
use Rattle.std.proofs.marker.PhantomData.TheSendSync as phantom
use Rattle.std.proofs.sync.Condvar.TheSendSync as condvar
use Rattle.std.proofs.sync.Mutex.TheSendSync as mutex
use Rattle.std.proofs.sync.atomic.AtomicBool.TheSendSync as atomic
use Rattle.std.proofs.vec.Vec.TheSendSync as vec
use Rattle.gx_outside.specs.declared.journal.Journal.{Ghosts}
use Rattle.gx_cells.specs.contracts.coord_cell.CoordCell as CoordCell
use Rattle.gx_cells.specs.contracts.coord_cell.CoordCell.TheInside as coord_inside
use Rattle.gx_cells.specs.contracts.segment_cell.SegmentCell as SegmentCell
use Rattle.gx_cells.specs.contracts.segment_cell.SegmentCell.TheInside as segment_inside
use Rattle.gx_cells.specs.contracts.inbox.Inbox as Inbox
use Rattle.gx_cells.proofs.Sent.{coord_history_field_send, faults_field_send, history_field_send, inbox_field_send}
use Rattle.gx_coord.proofs.Sent.{coord_field_send}
use Rattle.gx_segment.proofs.Sent.{segment_field_send}
use Rattle.gx_threads.specs.contracts.hall.Hall as Hall
use Rattle.gx_threads.specs.contracts.hall.Post as Post
use Rattle.gx_threads.specs.contracts.lock.NamedCoord as NamedCoord
use Rattle.gx_threads.specs.contracts.lock.NamedCoord.TheInside as named_coord_inside
use Rattle.gx_threads.specs.contracts.lock.NamedSegment as NamedSegment
use Rattle.gx_threads.specs.contracts.lock.NamedSegment.TheInside as named_segment_inside
use Rattle.gx_threads.specs.contracts.lock.SegmentLock as SegmentLock
use Rattle.gx_threads.specs.declared.lock.SetName as name

pub post_sync : IsSync Post.the_row
post_sync = search (sendable, mutex.the_sync, condvar.the_field_sync) depth 20

inbox_send : IsSend Inbox.the_row
inbox_send = recorded_send Inbox.the_field.row _ _ Inbox.the_type.to_one inbox_field_send

module _ (J : RattleType) (journal : Ghosts J.Denot) (s : IsSend J) where
  coord_inside_send : IsSend (coord_inside.the_row J journal)
  coord_inside_send =
      let T = coord_inside.the_type J journal in
      recorded_send (Struct (shape.shape T)) T.D T.to T.to_one (struct_send (shape.shape T) (
        search (sendable, coord_history_field_send),
        (
          search (sendable, vec.the_send, heap.the_field_send, frees, inbox_send) depth 20,
          (
            search (sendable, coord_field_send),
            (
              search (sendable, faults_field_send),
              (
                search (sendable, s),
                (
                  search sendable,
                  tt,
                ),
              ),
            ),
          ),
        ),
      ))

  coord_cell_send : IsSend (CoordCell.the_row J journal)
  coord_cell_send = search (sendable, coord_inside_send)

  segment_inside_send : IsSend (segment_inside.the_row J journal)
  segment_inside_send =
      let T = segment_inside.the_type J journal in
      recorded_send (Struct (shape.shape T)) T.D T.to T.to_one (struct_send (shape.shape T) (
        search (sendable, history_field_send),
        (
          search (sendable, inbox_field_send),
          (
            search (sendable, segment_field_send),
            (
              search (sendable, faults_field_send),
              (
                search (sendable, s),
                (
                  search sendable,
                  tt,
                ),
              ),
            ),
          ),
        ),
      ))

  segment_cell_send : IsSend (SegmentCell.the_row J journal)
  segment_cell_send = search (sendable, segment_inside_send)

module _ (J N : RattleType) (journal : Ghosts J.Denot) (set : name.Ghosts N.Denot) (s : IsSend J) where
  named_coord_inside_send : IsSend (named_coord_inside.the_row J N journal set)
  named_coord_inside_send =
      let T = named_coord_inside.the_type J N journal set in
      recorded_send (Struct (shape.shape T)) T.D T.to T.to_one (struct_send (shape.shape T) (search (sendable, coord_cell_send, s) depth 20, (search (sendable, phantom.the_field_send) depth 20, tt)))

  named_coord_send : IsSend (NamedCoord.the_row J N journal set)
  named_coord_send = search (sendable, named_coord_inside_send)

  named_segment_inside_send : IsSend (named_segment_inside.the_row J N journal set)
  named_segment_inside_send =
      let T = named_segment_inside.the_type J N journal set in
      recorded_send (Struct (shape.shape T)) T.D T.to T.to_one (struct_send (shape.shape T) (search (sendable, segment_cell_send, s) depth 20, (search (sendable, phantom.the_field_send) depth 20, tt)))

  named_segment_send : IsSend (NamedSegment.the_row J N journal set)
  named_segment_send = search (sendable, named_segment_inside_send)

  segment_lock_sync : IsSync (SegmentLock.the_row J N journal set)
  segment_lock_sync = search (sendable, mutex.the_sync, named_segment_send) depth 20

  pub hall_sync : IsSync (Hall.the_row J N journal set)
  hall_sync = search (sendable, named_coord_send, segment_lock_sync, mutex.the_sync, vec.the_sync, heap.the_field_sync, atomic.the_field_sync, post_sync) depth 20
