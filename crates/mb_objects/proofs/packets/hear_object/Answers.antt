use Rattle.std.proofs.Common.{◌≡◌, Some, None, List, get_or, ap, sym, ◌∙◌}
use Rattle.mb_alc.specs.PacketView.{packet_seen, body_seen}
use Rattle.mb_life.specs.Life.{Life}
use Rattle.mb_machine.specs.Packets.{object_reason}
use Rattle.mb_objects.proofs.PlaceLemmas.{at-position}
use Rattle.mb_objects.proofs.ReasonLemmas.{unknown-object, dropped-object, heard-object}
use Rattle.mb_objects.proofs.packets.hear_object.Goals as goal

pub returns-in_default : goal.returns-in_default
returns-in_default c t =
    unknown-object c.args.toi c.args.lives.now (packet_seen c.args.packet.now) (body_seen c.args.body.now) t (sym c.place.ensures.place ∙ c.in_default.is)

pub returns-in-Some-object_reason : goal.returns-in-Some-object_reason
returns-in-Some-object_reason c t =
    let lives = c.args.lives.now in
    let packet = packet_seen c.args.packet.now in
    let body = body_seen c.args.body.now in
    let seen = c.index-as_slice-place.result in
    let life = get_or lives c.in-Some.place seen in
    let same : seen ≡ life = c.index-as_slice-place.is ∙ ap (λ (ls : List Life). get_or ls c.in-Some.place seen) c.as_slice.ensures.lives in
    let why : object_reason life packet body ≡ Some c.in-Some-object_reason.reason =
    ap (λ (l : Life). object_reason l packet body) (sym same) ∙ (sym c.object_reason.ensures.exact ∙ c.in-Some-object_reason.is) in
    dropped-object c.args.toi lives packet body t life c.in-Some.place c.in-Some-object_reason.reason
    (at-position c.args.toi lives c.in-Some.place seen (sym c.place.ensures.place ∙ c.in-Some.is)) why

pub returns : goal.returns
returns c t =
    let lives = c.args.lives.now in
    let packet = packet_seen c.args.packet.now in
    let body = body_seen c.args.body.now in
    let seen = c.index-as_slice-place.result in
    let life = get_or lives c.in-Some.place seen in
    let same : seen ≡ life = c.index-as_slice-place.is ∙ ap (λ (ls : List Life). get_or ls c.in-Some.place seen) c.as_slice.ensures.lives in
    let none : object_reason life packet body ≡ None =
    ap (λ (l : Life). object_reason l packet body) (sym same) ∙ (sym c.object_reason.ensures.exact ∙ c.in_default-object_reason.is) in
    heard-object c.args.toi lives c.hear.new.self packet body t life seen c.in-Some.place c.in_ok-news.news.kept c.in_ok-news.news.determined
    (at-position c.args.toi lives c.in-Some.place seen (sym c.place.ensures.place ∙ c.in-Some.is)) c.in-Some.ensures.within none
    (rw c.learn.ensures at (c.in_ok-news.ensures.block seen)) (rw c.learn.ensures at (c.in_ok-news.ensures.heard seen))
    (rw c.learn.ensures at (c.in_ok-news.ensures.kept seen)) (rw c.learn.ensures at (c.in_ok-news.ensures.determined seen))
