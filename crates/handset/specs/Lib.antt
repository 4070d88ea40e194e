-- Interface  what the calls give where the proved one answers by an enum or a part, which are not exported
pub mod Interface
