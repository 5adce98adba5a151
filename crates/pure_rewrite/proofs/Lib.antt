pub mod RewriteLaws
