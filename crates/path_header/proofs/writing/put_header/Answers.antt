use Rattle.std.proofs.Common.{◌≡◌, ◌∙◌, length, subst, ap}
use Rattle.path_header.specs.Value.{HeaderValue, IsHeader}
use Rattle.path_header.proofs.Encoded.{encoded}
use Rattle.path_header.proofs.writing.put_header.Goals as goal

pub returns : goal.returns
returns c =
    let v = c.args.header.now in
    let opened = c.header.view_is in
    let is : IsHeader v = subst (λ (w : HeaderValue). IsHeader w) opened c.header.invariant in
    let infos : c.deref.result.now ≡ v.infos = c.deref.ensures.0 ∙ ap (λ (w : HeaderValue). w.infos) opened in
    let hops : c.deref-2.result.now ≡ v.hops = c.deref-2.ensures.0 ∙ ap (λ (w : HeaderValue). w.hops) opened in
    let count : c.len.result ≡ length v.infos = c.len.ensures.value ∙ ap (λ (w : HeaderValue). length w.infos) opened in
    let holds = encoded v c.args.room.now c.put.new.room c.put_infos.new.room c.put_hops.new.room c.meta_bytes.result c.deref.result.now c.deref-2.result.now c.len.result is
    infos hops count c.meta_bytes.ensures c.put.ensures c.put_infos.ensures.text c.put_hops.ensures.text c.put_infos.ensures.len c.put_hops.ensures.len c.put_infos.ensures.fits c.put_hops.ensures.fits in
    record { spelled = holds.spells; rest = holds.rest }
